use Rattle.std.proofs.Common.{rules, ◌≡◌, length, ◌+◌, ◌-◌, true, false, drop, ap, sym, ◌∙◌, arith, Some, ◌⊎◌, inl, inr}
use Rattle.std.proofs.lemmas.Result.{err_from_is_err_and}
use Rattle.rw_parser_reading.specs.Read.{sees, separated_at, many_at}
use Rattle.rw_parser_grammar.specs.declared.lexeme.Mark.TheVariants as m
use Rattle.rw_parser_reading.specs.Frames.{frames_of_type, most, cut}
use Rattle.rw_parser_reading.specs.ReadTypes.{begins_atype, atype_at}
use Rattle.rw_parser_patterns.specs.Given.{counted}
use Rattle.rw_parser_patterns.specs.Depth.{any_type_at}
use Rattle.rw_parser_patterns.specs.Kept.{side_behind, atype_kept, btype_kept}
use Rattle.rw_base.proofs.Answers.{fails_on}
use Rattle.rw_parser_patterns.proofs.Turns.{atypes_turns}
use Rattle.rw_parser_patterns.proofs.Kept.{with_kept, with_counted, behind_arrows, counted_last, counted_step, counted_fail, counted_none, kept_many_step, kept_many_fail, kept_many_done, atype_cut, arrow_step, arrow_last, arrow_fail, arrow_none}
use Rattle.rw_parser_patterns.proofs.types.+types.Goals as goal
use Rattle.rw_parser_patterns.proofs.types.+types.Goals.{read_atypes-else-loop-turn-test, read_atypes-then-loop-turn-test+then-not-begins_atype}

pub read_atypes-returns-in_err-one-clause-read : goal.read_atypes-returns-in_err-one-clause-read
read_atypes-returns-in_err-one-clause-read t c =
    let p = err_from_is_err_and c.from_residual.result c.from_residual.ensures.1 in
    let begins : begins_atype c.loop-turn.rest.now ≡ true = search rules in
    rw (p.1, p.2) (fails_on c.in_err-one.field-0.0 (atype_kept c.args.room c.loop-turn.rest.now) _ c.in_err-one.ensures.read
    (λ h. ap (cut (most frames_of_type) c.args.room) (atypes_turns any_type_at c.args.tokens.now) ∙ sym c.loop-turn.invariant.read
    ∙ kept_many_fail frames_of_type c.args.room begins_atype (atype_at any_type_at) (length c.args.tokens.now - c.loop-turn._turn) (length c.args.tokens.now - (c.loop-turn._turn + 1)) c.loop-turn.rest.now c.loop-turn.all (omega arith) begins
    (sym (atype_cut c.args.room c.loop-turn.rest.now) ∙ h)))

pub read_atypes-loop-turn-preserved : goal.read_atypes-loop-turn-preserved
read_atypes-loop-turn-preserved t c =
    let one = atype_at any_type_at in
    let next = length c.args.tokens.now - (c.loop-turn._turn + 1) in
    let begins : begins_atype c.loop-turn.rest.now ≡ true = search rules in
    let s = c.in_ok-one.ensures.shorter in
    let i = c.loop-turn.invariant.shorter in
    let step = kept_many_step frames_of_type c.args.room begins_atype one (length c.args.tokens.now - c.loop-turn._turn) next c.loop-turn.rest.now c.loop-turn.all c.in_ok-one.one c.in_ok-one.behind.now (omega arith) begins
    (sym (atype_cut c.args.room c.loop-turn.rest.now) ∙ c.in_ok-one.ensures.read) in
    record {
      read = ap (λ f. with_kept f (cut (most frames_of_type) c.args.room (many_at begins_atype one next c.in_ok-one.behind.now))) c.in_ok-all.ensures ∙ step ∙ c.loop-turn.invariant.read;
      shorter = omega arith;
    }

pub read_atypes-returns-clause-read : goal.read_atypes-returns-clause-read
read_atypes-returns-clause-read t c =
    let left = length c.args.tokens.now - c.loop-turn._turn in
    let done : (left ≡ 0) ⊎ (begins_atype c.loop-turn.rest.now ≡ false) =
    elim c.loop-turn-test.branch [ read_atypes-else-loop-turn-test w ↦ inl (omega arith) | read_atypes-then-loop-turn-test+then-not-begins_atype w ↦ inr (search rules) ] in
    ap (cut (most frames_of_type) c.args.room) (atypes_turns any_type_at c.args.tokens.now) ∙ sym c.loop-turn.invariant.read
    ∙ kept_many_done frames_of_type c.args.room begins_atype (atype_at any_type_at) left c.loop-turn.rest.now c.loop-turn.all done

pub read_type-returns-in_err-side-clause-read : goal.read_type-returns-in_err-side-clause-read
read_type-returns-in_err-side-clause-read t c =
    let p = err_from_is_err_and c.from_residual.result c.from_residual.ensures.1 in
    rw (p.1, p.2) (fails_on c.in_err-side.field-0.0 (btype_kept c.loop-turn.left c.loop-turn.rest.now) _ c.in_err-side.ensures.read
    (λ h. sym c.loop-turn.invariant.read ∙ arrow_fail c.loop-turn.left c.loop-turn.rest.now c.loop-turn.sides h))

pub read_type-returns-then-not-sees-clause-read : goal.read_type-returns-then-not-sees-clause-read
read_type-returns-then-not-sees-clause-read t c =
    let stop : sees m.Arrow c.in_ok-side.behind.now ≡ false = search rules in
    let last = arrow_last c.loop-turn.left c.loop-turn.rest.now c.loop-turn.sides c.in_ok-side.side c.in_ok-side.behind.now c.in_ok-side.ensures.read stop in
    sym c.loop-turn.invariant.read ∙ last ∙ ap (λ f. Some (f, c.in_ok-side.behind.now)) (sym c.in_ok-behind_sides.ensures)

pub read_type-loop-turn-preserved : goal.read_type-loop-turn-preserved
read_type-loop-turn-preserved t c =
    let more : sees m.Arrow c.in_ok-side.behind.now ≡ true = search rules in
    let s = c.in_ok-side.ensures.shorter in
    let i = c.loop-turn.invariant.shorter in
    let d = c.rest_of-rest.ensures.shorter in
    let step = arrow_step c.loop-turn.left c.loop-turn.rest.now c.loop-turn.sides c.in_ok-side.side c.in_ok-side.behind.now c.in_ok-side.ensures.read more in
    record {
      read = ap (λ r. behind_arrows c.in_ok-sides.sides (cut frames_of_type c.one_less-left.result (any_type_at r))) c.rest_of-rest.ensures.rest
          ∙ ap (λ f. behind_arrows f (cut frames_of_type c.one_less-left.result (any_type_at (drop 1 c.in_ok-side.behind.now)))) c.in_ok-sides.ensures
          ∙ ap (λ n. behind_arrows (side_behind c.loop-turn.left c.loop-turn.sides c.in_ok-side.side) (cut frames_of_type n (any_type_at (drop 1 c.in_ok-side.behind.now)))) c.one_less-left.ensures
          ∙ step ∙ c.loop-turn.invariant.read;
      shorter = omega arith;
    }

pub read_type-returns-clause-read : goal.read_type-returns-clause-read
read_type-returns-clause-read t c =
    let i = c.loop-turn.invariant.shorter in
    sym c.loop-turn.invariant.read ∙ arrow_none c.loop-turn.left c.loop-turn.rest.now c.loop-turn.sides (omega arith)

pub types-returns-in_err-one-clause-read : goal.types-returns-in_err-one-clause-read
types-returns-in_err-one-clause-read t c =
    let p = err_from_is_err_and c.from_residual.result c.from_residual.ensures.1 in
    rw (p.1, p.2) (fails_on c.in_err-one.field-0.0 (cut frames_of_type c.args.room (any_type_at c.loop-turn.rest.now)) _ c.in_err-one.ensures.read
    (λ h. sym c.loop-turn.invariant.read
    ∙ counted_fail frames_of_type c.args.room m.Comma any_type_at (length c.args.tokens.now - c.loop-turn.turn) (length c.args.tokens.now - (c.loop-turn.turn + 1)) c.loop-turn.turn c.loop-turn.rest.now c.loop-turn.all (omega arith) h))

pub types-returns-then-not-sees-clause-read : goal.types-returns-then-not-sees-clause-read
types-returns-then-not-sees-clause-read t c =
    let stop : sees m.Comma c.in_ok-one.behind.now ≡ false = search rules in
    let last = counted_last frames_of_type c.args.room m.Comma any_type_at (length c.args.tokens.now - c.loop-turn.turn) (length c.args.tokens.now - (c.loop-turn.turn + 1)) c.loop-turn.turn c.loop-turn.rest.now c.loop-turn.all
    c.in_ok-one.one c.in_ok-one.behind.now (omega arith) c.in_ok-one.ensures.read stop in
    sym c.loop-turn.invariant.read ∙ last ∙ ap (λ f. Some (c.loop-turn.turn + 1, (f, c.in_ok-one.behind.now))) (sym c.in_ok-all.ensures)

pub types-loop-turn-preserved : goal.types-loop-turn-preserved
types-loop-turn-preserved t c =
    let next = length c.args.tokens.now - (c.loop-turn.turn + 1) in
    let more : sees m.Comma c.in_ok-one.behind.now ≡ true = search rules in
    let s = c.in_ok-one.ensures.shorter in
    let i = c.loop-turn.invariant.shorter in
    let d = c.rest_of-rest.ensures.shorter in
    let step = counted_step frames_of_type c.args.room m.Comma any_type_at (length c.args.tokens.now - c.loop-turn.turn) next c.loop-turn.turn c.loop-turn.rest.now c.loop-turn.all
    c.in_ok-one.one c.in_ok-one.behind.now (omega arith) c.in_ok-one.ensures.read more in
    record {
      read = ap (λ r. with_counted (c.loop-turn.turn + 1) c.in_ok-all.all (counted frames_of_type c.args.room (separated_at m.Comma any_type_at next r))) c.rest_of-rest.ensures.rest
          ∙ ap (λ f. with_counted (c.loop-turn.turn + 1) f (counted frames_of_type c.args.room (separated_at m.Comma any_type_at next (drop 1 c.in_ok-one.behind.now)))) c.in_ok-all.ensures
          ∙ step ∙ c.loop-turn.invariant.read;
      shorter = omega arith;
    }

pub types-returns-clause-read : goal.types-returns-clause-read
types-returns-clause-read t c =
    sym c.loop-turn.invariant.read ∙ counted_none frames_of_type c.args.room m.Comma any_type_at (length c.args.tokens.now - c.loop-turn.turn) c.loop-turn.turn c.loop-turn.rest.now c.loop-turn.all (omega arith)
