-- What is left to close is what there was.
use Rattle.std.proofs.Common.{◌≡◌, length, reverse}
use Rattle.rw_parser_chains.specs.Grouping.{closed}
use Rattle.rw_parser_chains.proofs.chain.close.Given as goal

abbrev pub invariant-loop-left : goal.invariant-loop-left
invariant-loop-left l = closed (reverse l.waiting.items) l.operand ≡ closed (reverse l.fn.waiting.items) l.fn.operand

abbrev pub decreases-loop-left : goal.decreases-loop-left
decreases-loop-left l = length l.waiting.items
