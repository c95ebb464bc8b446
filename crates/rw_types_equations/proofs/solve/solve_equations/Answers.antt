-- One equation after the other.
use Rattle.std.proofs.Common.{◌∙◌}
use Rattle.std.proofs.lemmas.Result.{err_from_is_err_and}
use Rattle.rw_types_equations.proofs.Solving.{solved_start, solved_step, solved_done, solved_refused}
use Rattle.rw_types_equations.proofs.solve.solve_equations.Goals as goal

pub loop-equation-init : goal.loop-equation-init
loop-equation-init c = record { table = c.in_ok-table.ensures.table; as_many = c.in_ok-table.ensures.as_many; solved = solved_start _ _ c.in_ok-table.ensures.free }

pub loop-equation-preserved : goal.loop-equation-preserved
loop-equation-preserved c = record {
  table = c.in_ok-solve_one.ensures.table;
  as_many = c.in_ok-solve_one.ensures.as_many ∙ c.loop-equation.invariant.as_many;
  solved = solved_step _ _ _ _ c.equation-item.result c.loop-equation.invariant.solved c.in_ok-solve_one.ensures.narrowed c.loop-equation-test.true c.equation-item.is;
}

pub returns-clause-solves : goal.returns-clause-solves
returns-clause-solves c = solved_done _ _ _ c.loop-equation.invariant.solved c.loop-equation-test.false

pub returns-in_err-solve_one-clause-refused : goal.returns-in_err-solve_one-clause-refused
returns-in_err-solve_one-clause-refused c = λ h.
    let p = err_from_is_err_and c.from_residual-in_err-solve_one.result c.from_residual-in_err-solve_one.ensures.1 in
    solved_refused _ _ _ _ c.args.variables c.equation-item.result c.loop-equation.invariant.solved c.loop-equation-test.true c.equation-item.is c.loop-equation.invariant.as_many
    (c.in_err-solve_one.ensures.within (cc)) (c.in_err-solve_one.ensures.refused (cc))
