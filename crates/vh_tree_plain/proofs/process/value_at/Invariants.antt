-- The names that were passed are others.
use Rattle.std.proofs.Common.{◌≡◌, drop}
use Rattle.vh_tree.specs.DeltaCycle.{seen_at}
use Rattle.vh_tree_plain.proofs.process.value_at.Given as goal

abbrev pub invariant-loop-held : goal.invariant-loop-held
invariant-loop-held l = seen_at (drop l.held-index l.store) l.name ≡ seen_at l.store l.name
