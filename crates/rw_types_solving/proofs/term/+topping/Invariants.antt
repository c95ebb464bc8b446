-- What the loop keeps.
use Rattle.std.proofs.Common.{◌≡◌, max, drop}
use Rattle.rw_types_solving.specs.Types.{plains, tys, top_in}
use Rattle.rw_types_solving.proofs.term.+topping.Given as goal

abbrev pub invariant-top_of_all-loop-term : goal.invariant-top_of_all-loop-term
invariant-top_of_all-loop-term l = max l.highest (top_in (tys (plains (drop l.term-index l.terms)))) ≡ top_in (tys (plains l.terms))
