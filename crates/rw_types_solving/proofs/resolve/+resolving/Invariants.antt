-- The measures of the cycle, and what the loop keeps: each head takes one of the budget.
use Rattle.std.proofs.Common.{◌≡◌, ◌+◌, ◌*◌, take}
use Rattle.rw_types_solving.specs.Types.{plains, tys}
use Rattle.rw_types_solving.specs.Tables.{equations}
use Rattle.rw_types_solving.specs.Inside.{size_in, ComeTo}
use Rattle.rw_types_solving.proofs.resolve.+resolving.Given as goal

abbrev pub decreases-resolved : goal.decreases-resolved
decreases-resolved l = 3 * l.budget

abbrev pub decreases-resolved_under : goal.decreases-resolved_under
decreases-resolved_under l = 3 * l.budget + 2

abbrev pub decreases-resolved_all : goal.decreases-resolved_all
decreases-resolved_all l = 3 * l.budget + 1

abbrev pub invariant-resolved_all-loop-term : goal.invariant-resolved_all-loop-term
invariant-resolved_all-loop-term l = record {
  made : ComeTo (equations l.entries) (plains (take l.term-index l.terms)) (plains l.all);
  left : l.left + size_in (tys (plains l.all)) ≡ l.fn.budget;
}
