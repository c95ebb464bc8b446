-- What the loop keeps.
use Rattle.std.proofs.Common.{◌≡◌, drop}
use Rattle.rw_types_solving.specs.Types.{plains, tys, occurs_in}
use Rattle.rw_types_solving.proofs.term.+having.Given as goal

abbrev pub invariant-any_has-loop-term : goal.invariant-any_has-loop-term
invariant-any_has-loop-term l = occurs_in l.x (tys (plains (drop l.term-index l.terms))) ≡ occurs_in l.x (tys (plains l.terms))
