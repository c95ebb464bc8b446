-- By computing: the equation of each production, as often as they fit.
use Rattle.vhdl_worked.proofs.Folds.{at-Assign, at-If, at-Branch, at-Name, at-Slice, at-Literal, at-Call, at-Join}
use Rattle.vhdl_worked.proofs.accepted.accepted_forms.Goals as goal

pub returns-clause-join : goal.returns-clause-join
returns-clause-join c = simp (at-Assign, at-Name, at-Literal, at-Join)

pub returns-clause-earlier : goal.returns-clause-earlier
returns-clause-earlier c = simp (at-Assign, at-If, at-Branch, at-Name, at-Literal, at-Call)

pub returns-clause-wide : goal.returns-clause-wide
returns-clause-wide c = simp (at-Assign, at-If, at-Branch, at-Name, at-Slice, at-Literal, at-Call)
