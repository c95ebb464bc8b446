-- The variable is a type, or a function.
use Rattle.rw_types_solving.specs.Types.{var}
use Rattle.rw_types_equations.proofs.Solving.{ok_narrowed_to, told_type, told_function}
use Rattle.rw_types_equations.proofs.solve.solve_one.Goals as goal

pub returns-in-None-clause-narrowed : goal.returns-in-None-clause-narrowed
returns-in-None-clause-narrowed c = ok_narrowed_to _ _ _ (var c.args.equation.now.variable) _ _ (told_type c.args.equation.now c.in-None.is) c.solve_type.ensures.narrowed

pub returns-in-Some-clause-narrowed : goal.returns-in-Some-clause-narrowed
returns-in-Some-clause-narrowed c = ok_narrowed_to _ _ _ (var c.args.equation.now.variable) _ _ (told_function c.args.equation.now c.in-Some.takes _ c.in-Some.is c.as_slice.ensures) c.solve_function.ensures.narrowed
