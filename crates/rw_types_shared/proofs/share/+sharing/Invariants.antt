-- The types so far have numbers.
use Rattle.std.proofs.Common.{take}
use Rattle.rw_types_solving.specs.Closing.{sort_of}
use Rattle.rw_types_rules.specs.Typings.{leftover}
use Rattle.rw_types_shared.proofs.Loops.{SharedSoFar}
use Rattle.rw_types_shared.proofs.share.+sharing.Given as goal

abbrev pub invariant-share_all-loop-term : goal.invariant-share_all-loop-term
invariant-share_all-loop-term l = SharedSoFar (leftover (sort_of l.sorts)) l.fn.types l.types l.all.items (take l.term-index l.terms)
