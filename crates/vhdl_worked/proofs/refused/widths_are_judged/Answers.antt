-- By computing: the equation of each production, as often as they fit.
use Rattle.vhdl_worked.proofs.Folds.{at-Assign, at-If, at-Branch, at-Name, at-Slice, at-Literal, at-Call, at-Join}
use Rattle.vhdl_worked.proofs.refused.widths_are_judged.Goals as goal

pub returns-clause-slice : goal.returns-clause-slice
returns-clause-slice c = simp (at-Assign, at-If, at-Branch, at-Name, at-Slice, at-Literal, at-Call)

pub returns-clause-upwards : goal.returns-clause-upwards
returns-clause-upwards c = simp (at-Assign, at-If, at-Branch, at-Name, at-Slice, at-Literal, at-Call)

pub returns-clause-sides : goal.returns-clause-sides
returns-clause-sides c = simp (at-Assign, at-If, at-Branch, at-Name, at-Literal, at-Call, at-Join)

pub returns-clause-argument : goal.returns-clause-argument
returns-clause-argument c = simp (at-Assign, at-If, at-Branch, at-Name, at-Literal, at-Call)

pub returns-clause-result : goal.returns-clause-result
returns-clause-result c = simp (at-Assign, at-If, at-Branch, at-Name, at-Literal, at-Call)

pub returns-clause-declared : goal.returns-clause-declared
returns-clause-declared c = simp (at-Assign, at-If, at-Branch, at-Name, at-Literal, at-Call)
