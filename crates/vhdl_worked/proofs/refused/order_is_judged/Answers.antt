-- By computing: the equation of each production, as often as they fit.
use Rattle.vhdl_worked.proofs.Folds.{at-Assign, at-If, at-Branch, at-Name, at-Literal, at-Call}
use Rattle.vhdl_worked.proofs.refused.order_is_judged.Goals as goal

pub returns-clause-later : goal.returns-clause-later
returns-clause-later c = simp (at-Assign, at-If, at-Branch, at-Name, at-Literal, at-Call)

pub returns-clause-later_width : goal.returns-clause-later_width
returns-clause-later_width c = simp (at-Assign, at-If, at-Branch, at-Name, at-Literal, at-Call)

pub returns-clause-itself : goal.returns-clause-itself
returns-clause-itself c = simp (at-Assign, at-If, at-Branch, at-Name, at-Literal, at-Call)

pub returns-clause-bare : goal.returns-clause-bare
returns-clause-bare c = simp (at-Assign, at-If, at-Branch, at-Name, at-Literal, at-Call)
