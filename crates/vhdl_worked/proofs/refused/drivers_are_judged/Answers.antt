-- By computing: the equation of each production, as often as they fit.
use Rattle.vhdl_worked.proofs.Folds.{at-Assign, at-If, at-Branch, at-Name, at-Literal, at-Call}
use Rattle.vhdl_worked.proofs.refused.drivers_are_judged.Goals as goal

pub returns-clause-second : goal.returns-clause-second
returns-clause-second c = simp (at-Assign, at-If, at-Branch, at-Name, at-Literal, at-Call)

pub returns-clause-no_driver : goal.returns-clause-no_driver
returns-clause-no_driver c = simp (at-Assign, at-If, at-Branch, at-Name, at-Literal, at-Call)

pub returns-clause-no_output : goal.returns-clause-no_output
returns-clause-no_output c = simp (at-Assign, at-If, at-Branch, at-Name, at-Literal, at-Call)
