-- What the loop keeps.
use Rattle.std.proofs.Common.{◌≡◌, take, map}
use Rattle.rw_types_solving.specs.Types.{plains, apply}
use Rattle.rw_types_solving.specs.Closing.{closing}
use Rattle.rw_types_solving.proofs.close.+closing.Given as goal

abbrev pub invariant-closed_all-loop-term : goal.invariant-closed_all-loop-term
invariant-closed_all-loop-term l = plains l.all ≡ map (apply (closing l.sorts)) (plains (take l.term-index l.terms))
