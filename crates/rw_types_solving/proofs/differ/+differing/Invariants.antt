-- What the loop keeps.
use Rattle.std.proofs.Common.{◌≡◌, drop}
use Rattle.rw_types_solving.specs.Types.{plains, tys}
use Rattle.rw_types_solving.specs.Inside.{differences}
use Rattle.rw_types_solving.proofs.differ.+differing.Given as goal

abbrev pub invariant-first_of_all-loop-i : goal.invariant-first_of_all-loop-i
invariant-first_of_all-loop-i l = differences (tys (plains (drop l.i l.ts))) (tys (plains (drop l.i l.us))) ≡ differences (tys (plains l.ts)) (tys (plains l.us))
