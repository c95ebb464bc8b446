-- What is left to settle is what there was.
use Rattle.std.proofs.Common.{◌≡◌, length, ℕ, reverse}
use Rattle.rw_parser_chains.specs.Fixities.{strength_at}
use Rattle.rw_parser_chains.specs.Grouping.{settled}
use Rattle.rw_parser_chains.proofs.chain.settle.Given as goal

abbrev pub invariant-loop-left : goal.invariant-loop-left
invariant-loop-left l = (n : ℕ) → settled (strength_at l.fixities) (l.fn.next, n) (reverse l.waiting.items) l.operand ≡ settled (strength_at l.fixities) (l.fn.next, n) (reverse l.fn.waiting.items) l.fn.operand

abbrev pub decreases-loop-left : goal.decreases-loop-left
decreases-loop-left l = length l.waiting.items
