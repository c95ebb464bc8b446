-- What the loop keeps.
use Rattle.std.proofs.Common.{◌≡◌, drop, true}
use Rattle.rw_types_solving.specs.Types.{plains, tys}
use Rattle.rw_types_solving.specs.Conditions.{are_stacked, any, listed}
use Rattle.rw_types_solving.proofs.condition.+stacking.Given as goal

abbrev pub invariant-are_stacked-loop-term : goal.invariant-are_stacked-loop-term
invariant-are_stacked-loop-term l = are_stacked any (listed l.states) l.first (tys (plains (drop l.term-index l.terms))) ≡ are_stacked any (listed l.states) true (tys (plains l.terms))
