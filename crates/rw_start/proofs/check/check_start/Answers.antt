-- What the first rule refuses, and that both hold where none is refused.
use Rattle.std.proofs.Common.{rules, ◌≡◌, Err, None, sym, subst}
use Rattle.rw_base.specs.declared.rule.Rule.TheVariants.{E15, E16}
use Rattle.rw_tree.specs.Views.{itself}
use Rattle.rw_tree.specs.Declarations.{plain_program}
use Rattle.rw_scope_rules.specs.Names.{earliest}
use Rattle.rw_scope_rules.specs.Verdict.{broken_first}
use Rattle.rw_start.specs.Start.{improper_start}
use Rattle.rw_start.specs.Positions.{misplaced}
use Rattle.rw_base.specs.Answers.{IsJudged}
use Rattle.rw_start.proofs.Answering.{refused_first}
use Rattle.rw_start.proofs.Counted.{both_judged}
use Rattle.rw_start.proofs.check.check_start.Goals as goal

pub returns-in_err-judge_start-clause-judged : goal.returns-in_err-judge_start-clause-judged
returns-in_err-judge_start-clause-judged c =
    let program = plain_program itself c.args.program.now in
    let after = broken_first E16 (earliest (misplaced program)) None in
    let same : c.from_residual.result ≡ Err c.in_err-judge_start.field-0.0 = search rules in
    subst (IsJudged (broken_first E15 (earliest (improper_start program)) after)) (sym same)
    (refused_first Unit E15 (earliest (improper_start program)) after c.in_err-judge_start.field-0.0 c.in_err-judge_start.ensures)

pub returns-clause-started : goal.returns-clause-started
returns-clause-started c =
    both_judged (plain_program itself c.args.program.now) c.in_ok-places.places.items c.as_slice.result.now c.refuse.result c.in_ok-judge_start.ensures c.in_ok-places.ensures c.as_slice.ensures.value c.refuse.ensures
