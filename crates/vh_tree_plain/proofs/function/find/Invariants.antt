-- The names that were passed are others.
use Rattle.std.proofs.Common.{◌≡◌, drop}
use Rattle.vh_tree.specs.Functions.{Calls, value_in}
use Rattle.vh_tree_plain.proofs.function.find.Given as goal

abbrev pub invariant-loop-held : goal.invariant-loop-held
invariant-loop-held l = (calls : Calls) → value_in (drop l.held-index l.store) calls l.name ≡ value_in l.store calls l.name
