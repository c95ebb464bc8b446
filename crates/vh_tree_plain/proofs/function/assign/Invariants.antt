-- The variables that were passed have other names.
use Rattle.std.proofs.Common.{◌≡◌, ◌++◌, take, drop}
use Rattle.vh_tree.specs.Functions.{stored}
use Rattle.vh_tree_plain.proofs.function.assign.Given as goal

abbrev pub invariant-loop-at : goal.invariant-loop-at
invariant-loop-at l = (l.store.items ≡ l.fn.store.items) × (stored l.name l.value l.store.items ≡ take l.at l.store.items ++ stored l.name l.value (drop l.at l.store.items))
