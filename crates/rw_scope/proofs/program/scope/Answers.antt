-- No rule is broken where the parts found none.
use Rattle.rw_tree.specs.Views.{itself}
use Rattle.rw_tree.specs.Declarations.{plain_program}
use Rattle.rw_scope.proofs.Judging.{none_is_broken}
use Rattle.rw_scope.proofs.program.scope.Goals as goal

pub returns-clause-scoped : goal.returns-clause-scoped
returns-clause-scoped c =
    let program = plain_program itself c.args.program.now in
    c.verdict_law.ensures.holds program (none_is_broken program (c.in_ok-judge_names.ensures c.in_ok-bound.ensures) (c.in_ok-judge_types.ensures c.in_ok-bound.ensures))
