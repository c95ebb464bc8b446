-- What is there, before what is left, is the whole.
use Rattle.std.proofs.Common.{◌≡◌, ◌++◌, map, drop}
use Rattle.rw_tree.specs.Declarations.{declaration}
use Rattle.rw_types_rules.specs.Written.{data_types_from}
use Rattle.rw_types_equations.specs.Seen.{seen_types}
use Rattle.rw_types_world.proofs.made.data_types.Given as goal

abbrev pub invariant-loop-i : goal.invariant-loop-i
invariant-loop-i l = seen_types l.types ++ data_types_from l.i (map (declaration (λ a. a.span)) (drop l.i l.decls)) ≡ data_types_from 0 (map (declaration (λ a. a.span)) l.decls)
