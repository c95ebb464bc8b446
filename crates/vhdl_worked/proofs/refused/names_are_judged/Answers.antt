-- By computing: the equation of each production, as often as they fit.
use Rattle.std.proofs.Common.{refl}
use Rattle.vhdl_worked.proofs.Folds.{at-Assign, at-If, at-Branch, at-Name, at-Literal, at-Call}
use Rattle.vhdl_worked.proofs.refused.names_are_judged.Goals as goal

pub returns-clause-undeclared : goal.returns-clause-undeclared
returns-clause-undeclared c = simp (at-Assign, at-If, at-Branch, at-Name, at-Literal, at-Call)

pub returns-clause-parameter_read : goal.returns-clause-parameter_read
returns-clause-parameter_read c = simp (at-Assign, at-If, at-Branch, at-Name)

pub returns-clause-parameter_returned : goal.returns-clause-parameter_returned
returns-clause-parameter_returned c = simp (at-Assign, at-If, at-Branch, at-Name, at-Literal)

pub returns-clause-declared_twice : goal.returns-clause-declared_twice
returns-clause-declared_twice c = refl

pub returns-clause-few_arguments : goal.returns-clause-few_arguments
returns-clause-few_arguments c = simp (at-Assign, at-If, at-Branch, at-Name, at-Literal, at-Call)

pub returns-clause-bare : goal.returns-clause-bare
returns-clause-bare c = simp (at-Assign, at-If, at-Branch, at-Name, at-Literal, at-Call)

pub returns-clause-clock_in_function : goal.returns-clause-clock_in_function
returns-clause-clock_in_function c = simp (at-Assign, at-If, at-Branch, at-Name)
