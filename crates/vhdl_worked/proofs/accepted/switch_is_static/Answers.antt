-- By computing: the equation of each production, as often as they fit.
use Rattle.vhdl_worked.proofs.Folds.{at-Assign, at-If, at-Branch, at-Name, at-Literal, at-Call}
use Rattle.vhdl_worked.proofs.accepted.switch_is_static.Goals as goal

pub returns : goal.returns
returns c = simp (at-Assign, at-If, at-Branch, at-Name, at-Literal, at-Call)
