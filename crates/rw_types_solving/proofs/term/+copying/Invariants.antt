-- What the loop keeps.
use Rattle.std.proofs.Common.{◌≡◌, take}
use Rattle.rw_types_solving.specs.Types.{plains}
use Rattle.rw_types_solving.proofs.term.+copying.Given as goal

abbrev pub invariant-copied_all-loop-term : goal.invariant-copied_all-loop-term
invariant-copied_all-loop-term l = plains l.all ≡ plains (take l.term-index l.terms)
