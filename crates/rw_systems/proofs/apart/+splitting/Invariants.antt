-- The arguments so far, before those of the parts to come, are those of all parts.
use Rattle.std.proofs.Common.{◌≡◌, ◌++◌, map, drop, []}
use Rattle.rw_tree.specs.Trees.{expression_parts}
use Rattle.rw_meaning.specs.Systems.{with_systems}
use Rattle.rw_systems.specs.Shown.{seen, argument}
use Rattle.rw_systems.proofs.apart.+splitting.Given as goal

abbrev pub invariant-arguments_of-loop-expression : goal.invariant-arguments_of-loop-expression
invariant-arguments_of-loop-expression g l =
    map argument l.all ++ with_systems g.A.Binds.bound (expression_parts (map seen (drop l.expression-index l.parts))) [] ≡ with_systems g.A.Binds.bound (expression_parts (map seen l.parts)) []
