use Rattle.std.proofs.Common.{subst, ap, Some}
use Rattle.rw_tree.specs.Declarations.{plain_program, PlainProgram}
use Rattle.rw_scope_rules.specs.declared.binding.Bound.{Bound}
use Rattle.rw_cover.specs.Correct.{IsFirst}
use Rattle.rw_cover.specs.Coverage.{groups_of}
use Rattle.rw_front.specs.Verdict.{IsCoveredAs}
use Rattle.rw_front.proofs.Answered.{err_of, keeps_err}
use Rattle.rw_front.proofs.stages.covered.Goals as goal

pub returns-in-Err : goal.returns-in-Err
returns-in-Err c =
    keeps_err {X = Unit} IsCoveredAs (λ _. plain_program (λ span. span) c.args.program.now) (plain_program (λ span. span) c.args.program.now) c.in-Err.fail c.told.result c.told.ensures
    (λ r is. let found = c.in-Err.ensures.refused r (ap err_of is) in
    (found.0, subst (λ (x : PlainProgram Bound). IsFirst (groups_of x) (Some r.place)) c.requires found.1))
