use Rattle.std.proofs.Common.{rules, ◌≡◌, length, ◌+◌, ◌-◌, true, false, drop, ap, sym, ◌∙◌, arith, Some}
use Rattle.std.proofs.lemmas.Result.{err_from_is_err_and}
use Rattle.rw_parser_reading.specs.Read.{sees, separated_at}
use Rattle.rw_parser_grammar.specs.declared.lexeme.Mark.TheVariants as m
use Rattle.rw_parser_reading.specs.Frames.{frames_of_constructor}
use Rattle.rw_parser_reading.specs.ReadDeclarations.{data_constructor_at}
use Rattle.rw_parser_patterns.specs.Given.{counted}
use Rattle.rw_parser_patterns.specs.Depth.{any_type_at}
use Rattle.rw_base.proofs.Answers.{fails_on}
use Rattle.rw_parser_patterns.proofs.Kept.{with_counted, counted_last, counted_step, counted_fail, counted_none}
use Rattle.rw_parser_items.specs.Kept.{data_constructor_kept}
use Rattle.rw_parser_items.proofs.Kept.{data_constructor_cut}
use Rattle.rw_parser_items.proofs.data.some_constructors.Goals as goal

pub returns-in_err-one : goal.returns-in_err-one
returns-in_err-one c =
    let p = err_from_is_err_and c.from_residual.result c.from_residual.ensures.1 in
    rw (p.1, p.2) (fails_on c.in_err-one.field-0.0 (data_constructor_kept c.args.room c.loop-turn.rest.now) _ c.in_err-one.ensures.read
    (λ h. sym c.loop-turn.invariant
    ∙ counted_fail frames_of_constructor c.args.room m.Bar (data_constructor_at any_type_at) (length c.args.tokens.now - c.loop-turn.turn) (length c.args.tokens.now - (c.loop-turn.turn + 1)) c.loop-turn.turn c.loop-turn.rest.now c.loop-turn.all (omega arith)
    (sym (data_constructor_cut c.args.room c.loop-turn.rest.now) ∙ h)))

pub returns-then-not-sees : goal.returns-then-not-sees
returns-then-not-sees c =
    let stop : sees m.Bar c.in_ok-one.behind.now ≡ false = search rules in
    let last = counted_last frames_of_constructor c.args.room m.Bar (data_constructor_at any_type_at) (length c.args.tokens.now - c.loop-turn.turn) (length c.args.tokens.now - (c.loop-turn.turn + 1)) c.loop-turn.turn c.loop-turn.rest.now c.loop-turn.all
    c.in_ok-one.one c.in_ok-one.behind.now (omega arith) (sym (data_constructor_cut c.args.room c.loop-turn.rest.now) ∙ c.in_ok-one.ensures.read) stop in
    sym c.loop-turn.invariant ∙ last ∙ ap (λ f. Some (c.loop-turn.turn + 1, (f, c.in_ok-one.behind.now))) (sym c.in_ok-all.ensures)

pub loop-turn-preserved : goal.loop-turn-preserved
loop-turn-preserved c =
    let one = data_constructor_at any_type_at in
    let next = length c.args.tokens.now - (c.loop-turn.turn + 1) in
    let more : sees m.Bar c.in_ok-one.behind.now ≡ true = search rules in
    let step = counted_step frames_of_constructor c.args.room m.Bar one (length c.args.tokens.now - c.loop-turn.turn) next c.loop-turn.turn c.loop-turn.rest.now c.loop-turn.all
    c.in_ok-one.one c.in_ok-one.behind.now (omega arith) (sym (data_constructor_cut c.args.room c.loop-turn.rest.now) ∙ c.in_ok-one.ensures.read) more in
    ap (λ r. with_counted (c.loop-turn.turn + 1) c.in_ok-all.all (counted frames_of_constructor c.args.room (separated_at m.Bar one next r))) c.rest_of-rest.ensures.rest
    ∙ ap (λ f. with_counted (c.loop-turn.turn + 1) f (counted frames_of_constructor c.args.room (separated_at m.Bar one next (drop 1 c.in_ok-one.behind.now)))) c.in_ok-all.ensures
    ∙ step ∙ c.loop-turn.invariant

pub returns : goal.returns
returns c =
    sym c.loop-turn.invariant ∙ counted_none frames_of_constructor c.args.room m.Bar (data_constructor_at any_type_at) (length c.args.tokens.now - c.loop-turn.turn) c.loop-turn.turn c.loop-turn.rest.now c.loop-turn.all (omega arith)
