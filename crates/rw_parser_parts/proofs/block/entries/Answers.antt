use Rattle.std.proofs.Common.{rules, ◌≡◌, length, ◌+◌, ◌-◌, true, false, drop, ap, sym, ◌∙◌, arith, Some}
use Rattle.std.proofs.lemmas.Result.{err_from_is_err_and}
use Rattle.rw_parser_reading.specs.Read.{sees, after}
use Rattle.rw_parser_grammar.specs.declared.lexeme.Mark.TheVariants as m
use Rattle.rw_base.proofs.Answers.{fails_on}
use Rattle.rw_parser_parts.proofs.Blocks.{entries_none, entries_end, entries_skip, entries_fail, entries_last, entries_stuck, entries_step}
use Rattle.rw_parser_parts.proofs.block.entries.Goals as goal
use Rattle.rw_parser_parts.proofs.block.entries.Goals.{then-sees-2, else-sees-2+in_ok-entry+in_ok-push+else-sees-3+in_ok-rest}

pub returns-then-sees : goal.returns-then-sees
returns-then-sees g c at h =
    let closes : sees m.ClosesBlock c.loop-turn.rest.now ≡ true = search rules in
    sym (c.loop-turn.invariant at h)
    ∙ entries_end at (length c.args.tokens.now - c.loop-turn._turn) (length c.args.tokens.now - (c.loop-turn._turn + 1)) c.loop-turn.rest.now c.loop-turn.all (omega arith) closes
    ∙ ap (λ r. Some (c.loop-turn.all, r)) (sym c.rest_of.ensures.rest)

pub returns-in_err-entry : goal.returns-in_err-entry
returns-in_err-entry g c at h =
    let p = err_from_is_err_and c.from_residual.result c.from_residual.ensures.1 in
    let closes : sees m.ClosesBlock c.loop-turn.rest.now ≡ false = search rules in
    let goes_on : sees m.Semicolon c.loop-turn.rest.now ≡ false = search rules in
    rw (p.1, p.2) (fails_on c.in_err-entry.field-0.0 (at c.loop-turn.rest.now) _ (h _ _ c.in_err-entry.ensures)
    (λ k. sym (c.loop-turn.invariant at h) ∙ entries_fail at _ (length c.args.tokens.now - (c.loop-turn._turn + 1)) c.loop-turn.rest.now c.loop-turn.all (omega arith) closes goes_on k))

pub returns-then-sees-3 : goal.returns-then-sees-3
returns-then-sees-3 g c at h =
    let closes : sees m.ClosesBlock c.loop-turn.rest.now ≡ false = search rules in
    let goes_on : sees m.Semicolon c.loop-turn.rest.now ≡ false = search rules in
    let ends : sees m.ClosesBlock c.in_ok-entry.behind.now ≡ true = search rules in
    sym (c.loop-turn.invariant at h)
    ∙ entries_last at (length c.args.tokens.now - c.loop-turn._turn) (length c.args.tokens.now - (c.loop-turn._turn + 1)) c.loop-turn.rest.now c.loop-turn.all c.in_ok-entry.entry c.in_ok-entry.behind.now (omega arith) closes goes_on (h _ _ c.in_ok-entry.ensures) ends
    ∙ ap (λ f. Some (f, drop 1 c.in_ok-entry.behind.now)) (sym c.in_ok-push.ensures.ok)
    ∙ ap (λ r. Some (c.push.new.self, r)) (sym c.rest_of-then-sees-3.ensures.rest)

pub returns-in_err-rest : goal.returns-in_err-rest
returns-in_err-rest g c at h =
    let p = err_from_is_err_and c.from_residual-in_err-rest.result c.from_residual-in_err-rest.ensures.1 in
    let closes : sees m.ClosesBlock c.loop-turn.rest.now ≡ false = search rules in
    let goes_on : sees m.Semicolon c.loop-turn.rest.now ≡ false = search rules in
    let ends : sees m.ClosesBlock c.in_ok-entry.behind.now ≡ false = search rules in
    rw (p.1, p.2) (fails_on c.in_err-rest.field-0.0 (after m.Semicolon c.in_ok-entry.behind.now) _ c.in_err-rest.ensures.read
    (λ k. sym (c.loop-turn.invariant at h) ∙ entries_stuck at _ (length c.args.tokens.now - (c.loop-turn._turn + 1)) c.loop-turn.rest.now c.loop-turn.all c.in_ok-entry.entry c.in_ok-entry.behind.now (omega arith) closes goes_on (h _ _ c.in_ok-entry.ensures) ends k))

pub loop-turn-preserved : goal.loop-turn-preserved
loop-turn-preserved g c at h =
    let left = length c.args.tokens.now - c.loop-turn._turn in
    let next = length c.args.tokens.now - (c.loop-turn._turn + 1) in
    let closes : sees m.ClosesBlock c.loop-turn.rest.now ≡ false = search rules in
    elim c.if-sees-2.branch [
      | then-sees-2 w ↦
          let skips : sees m.Semicolon c.loop-turn.rest.now ≡ true = search rules in
          rw (w.all-is, w.rest-is, w.rest_of-rest.ensures.rest) (entries_skip at left next c.loop-turn.rest.now c.loop-turn.all (omega arith) closes skips ∙ c.loop-turn.invariant at h)
      | else-sees-2+in_ok-entry+in_ok-push+else-sees-3+in_ok-rest w ↦
          let goes_on : sees m.Semicolon c.loop-turn.rest.now ≡ false = search rules in
          let ends : sees m.ClosesBlock w.in_ok-entry.behind.now ≡ false = search rules in
          rw (w.all-is, w.rest-is, w.in_ok-push.ensures.ok)
          (entries_step at left next c.loop-turn.rest.now c.loop-turn.all w.in_ok-entry.entry w.in_ok-entry.behind.now w.in_ok-rest.rest.now (omega arith) closes goes_on (h _ _ w.in_ok-entry.ensures) ends w.in_ok-rest.ensures.read ∙ c.loop-turn.invariant at h)
    ]

pub returns : goal.returns
returns g c at h = sym (c.loop-turn.invariant at h) ∙ entries_none at (length c.args.tokens.now - c.loop-turn._turn) c.loop-turn.rest.now c.loop-turn.all (omega arith)
