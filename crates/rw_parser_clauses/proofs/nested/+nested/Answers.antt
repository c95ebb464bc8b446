-- The turns of the loop over frames, and a block over one level less.
use Rattle.std.proofs.Common.{rules, ◌≡◌, ℕ, ◌+◌, ◌-◌, Bool, List, ap, sym, ◌∙◌, arith, Some}
use Rattle.std.proofs.lemmas.Result.{err_from_is_err_and}
use Rattle.rw_base.proofs.Answers.{fails_on}
use Rattle.rw_parser_parts.specs.declared.frame.Frame.{Frame}
use Rattle.rw_parser_parts.specs.declared.frame.Step.TheVariants as step
use Rattle.rw_parser_parts.specs.Steps.{all_closed}
use Rattle.rw_parser_parts.specs.Within.{expression_within}
use Rattle.rw_parser_parts.proofs.Frames.{under, step_of, frames_none, frames_fail, frames_whole}
use Rattle.rw_parser_clauses.specs.Last.{with_frame}
use Rattle.rw_parser_clauses.proofs.Beneath.{no_locals, locals_once, last_same, frames_on, cut_on}
use Rattle.rw_parser_clauses.proofs.nested.+nested.Goals as goal

pub expression_within-returns-in_err-step : goal.expression_within-returns-in_err-step
expression_within-returns-in_err-step t c =
    let p = err_from_is_err_and c.from_residual.result c.from_residual.ensures.1 in
    let k = c.args.levels - (c.loop-turn.turn + 1) in
    rw (p.1, p.2) (fails_on c.in_err-step.field-0.0 (step_of k c.loop-turn.left c.loop-turn.rest.now) _ c.in_err-step.ensures
    (λ h. sym c.loop-turn.invariant.read ∙ frames_fail (c.args.levels - c.loop-turn.turn) k c.loop-turn.left c.loop-turn.rest.now c.loop-turn.frames c.loop-turn.is_cut (omega arith) h))

pub expression_within-returns-in-Whole : goal.expression_within-returns-in-Whole
expression_within-returns-in-Whole t c =
    let k = c.args.levels - (c.loop-turn.turn + 1) in
    let rest = c.in_ok-step.behind.now in
    let tree = c.in-Whole.tree in
    let found : step_of k c.loop-turn.left c.loop-turn.rest.now ≡ Some (step.Whole tree, rest) = c.in_ok-step.ensures ∙ ap (λ z. Some (z, rest)) c.in-Whole.is in
    let last = c.last_part-last.ensures ∙ last_same c.loop-turn.is_cut tree in
    sym c.loop-turn.invariant.read ∙ frames_whole (c.args.levels - c.loop-turn.turn) k c.loop-turn.left c.loop-turn.rest.now c.loop-turn.frames c.loop-turn.is_cut tree rest (omega arith) found
    ∙ ap (λ z. Some (all_closed c.loop-turn.frames z rest, rest)) (sym last) ∙ ap (λ z. Some (z, rest)) (sym c.in_ok-all_closed-in-Whole.ensures)

pub expression_within-loop-turn-preserved : goal.expression_within-loop-turn-preserved
expression_within-loop-turn-preserved t c =
    let k = c.args.levels - (c.loop-turn.turn + 1) in
    let rest = c.in_ok-step.behind.now in
    let frame = c.in-Opens.frame in
    let made : List Frame × ℕ × Bool = (c.in_ok-more-in-Opens.more, c.in_ok-more-in-Opens.less, c.in_ok-more-in-Opens.cut) in
    let e : made ≡ with_frame c.loop-turn.left c.loop-turn.is_cut c.loop-turn.frames frame = c.in_ok-more-in-Opens.ensures in
    let found : step_of k c.loop-turn.left c.loop-turn.rest.now ≡ Some (step.Opens frame, rest) = c.in_ok-step.ensures ∙ ap (λ z. Some (z, rest)) c.in-Opens.is in
    record {
      read = ap (λ (z : List Frame × ℕ × Bool). under z.0 z.2 (expression_within k z.1 rest)) e
          ∙ frames_on (c.args.levels - c.loop-turn.turn) k c.loop-turn.left c.loop-turn.rest.now c.loop-turn.frames c.loop-turn.is_cut frame rest (omega arith) c.loop-turn.invariant.cut found ∙ c.loop-turn.invariant.read;
      cut = λ h. ap (λ (z : List Frame × ℕ × Bool). z.1) e ∙ cut_on c.loop-turn.left c.loop-turn.is_cut c.loop-turn.frames frame c.loop-turn.invariant.cut (sym (ap (λ (z : List Frame × ℕ × Bool). z.2) e) ∙ h);
    }

pub expression_within-returns : goal.expression_within-returns
expression_within-returns t c =
    sym c.loop-turn.invariant.read ∙ frames_none (c.args.levels - c.loop-turn.turn) c.loop-turn.left c.loop-turn.rest.now c.loop-turn.frames c.loop-turn.is_cut (omega arith)

pub locals_within-returns-then-levels-eq0 : goal.locals_within-returns-then-levels-eq0
locals_within-returns-then-levels-eq0 t c = no_locals c.args.levels c.args.room c.args.tokens.now (search rules)

pub locals_within-returns : goal.locals_within-returns
locals_within-returns t c =
    let n = c.args.levels in
    let e : n ≡ (n - 1) + 1 = omega arith in
    rw (locals_once n (n - 1) c.args.room c.args.tokens.now e) c.locals_over.ensures
