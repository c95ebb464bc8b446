-- By computing: the equation of each production, as often as they fit.
use Rattle.vhdl_worked.proofs.Folds.{at-Assign, at-If, at-Branch, at-Name, at-Slice, at-Literal, at-Call}
use Rattle.vhdl_worked.proofs.refused.ports_are_judged.Goals as goal

pub returns-clause-input : goal.returns-clause-input
returns-clause-input c = simp (at-Assign, at-If, at-Branch, at-Name, at-Slice, at-Literal, at-Call)

pub returns-clause-output : goal.returns-clause-output
returns-clause-output c = simp (at-Assign, at-Name)

pub returns-clause-widths_first : goal.returns-clause-widths_first
returns-clause-widths_first c = simp (at-Assign, at-If, at-Branch, at-Name, at-Literal, at-Call)
