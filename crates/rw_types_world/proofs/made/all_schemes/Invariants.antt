-- What is made, before what is left, is the whole.
use Rattle.std.proofs.Common.{◌≡◌, ◌++◌, map, drop}
use Rattle.rw_tree.specs.Declarations.{plain_constructor}
use Rattle.rw_types_rules.specs.Schemes.{constructor_scheme}
use Rattle.rw_types_equations.specs.Seen.{seen_scheme, seen_types}
use Rattle.rw_types_world.proofs.made.all_schemes.Given as goal

abbrev pub invariant-loop-made : goal.invariant-loop-made
invariant-loop-made l =
    map seen_scheme l.all ++ map (constructor_scheme (seen_types l.types) l.number l.params) (map plain_constructor (drop l.made-index l.constructors))
    ≡ map (constructor_scheme (seen_types l.types) l.number l.params) (map plain_constructor l.constructors)
