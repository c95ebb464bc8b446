-- A function of too many types is no type of the bound.
use Rattle.std.proofs.Common.{◌<◌, length, arith}
use Rattle.rw_types_solving.specs.Types.{var}
use Rattle.rw_types_solving.specs.Tables.{most}
use Rattle.rw_types_equations.proofs.Solving.{ok_narrowed_to, too_many}
use Rattle.rw_types_equations.proofs.solve.solve_function.Goals as goal

pub returns-then-takes-gt-MOST-clause-refused : goal.returns-then-takes-gt-MOST-clause-refused
returns-then-takes-gt-MOST-clause-refused c = λ h. too_many _ (var c.args.variable) c.args.takes.now _ (let many : most < length c.args.takes.now = omega arith in many)

pub returns-clause-narrowed : goal.returns-clause-narrowed
returns-clause-narrowed c = ok_narrowed_to _ _ _ (var c.args.variable) _ _ c.in_ok-whole.ensures c.solve_type.ensures.narrowed
