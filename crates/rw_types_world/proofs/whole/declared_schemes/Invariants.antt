-- What is made, before what is left, is the whole.
use Rattle.std.proofs.Common.{◌≡◌, ◌++◌, map, drop}
use Rattle.rw_tree.specs.Declarations.{declaration}
use Rattle.rw_types_rules.specs.Schemes.{declared_scheme}
use Rattle.rw_types_equations.specs.Seen.{seen_option}
use Rattle.rw_types_world.proofs.whole.declared_schemes.Given as goal

abbrev pub invariant-loop-decl : goal.invariant-loop-decl
invariant-loop-decl l =
    map seen_option l.all ++ map (declared_scheme (map (declaration (λ a. a.span)) l.decls)) (map (declaration (λ a. a.span)) (drop l.decl-index l.decls))
    ≡ map (declared_scheme (map (declaration (λ a. a.span)) l.decls)) (map (declaration (λ a. a.span)) l.decls)
