-- What is made, before what is left, is the whole.
use Rattle.std.proofs.Common.{◌≡◌, ◌++◌, map, drop}
use Rattle.rw_tree.specs.Declarations.{declaration}
use Rattle.rw_types_rules.specs.Schemes.{constructed_from}
use Rattle.rw_types_equations.specs.Seen.{seen_scheme, seen_types}
use Rattle.rw_types_world.proofs.whole.constructed_schemes.Given as goal

abbrev pub invariant-loop-i : goal.invariant-loop-i
invariant-loop-i l =
    map (map seen_scheme) l.all ++ constructed_from (seen_types l.types) l.i (map (declaration (λ a. a.span)) (drop l.i l.decls))
    ≡ constructed_from (seen_types l.types) 0 (map (declaration (λ a. a.span)) l.decls)
