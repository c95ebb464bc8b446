-- A turn goes on, or refuses as the layout does; at the end all is there.
use Rattle.std.proofs.Common.{◌≡◌, ◌+◌, [], sym, ap, ◌∙◌, drop, subst, arith, List, Vec, Global}
use Rattle.std.proofs.lemmas.Result.{err_from_is_err_and}
use Rattle.std.proofs.lemmas.List.{take_all, drop_all}
use Rattle.std.specs.Option.{option_map}
use Rattle.rw_base.specs.declared.place.Place.{Place}
use Rattle.rw_lex.specs.declared.token.Token.{Token}
use Rattle.rw_base.specs.Answers.{Answers}
use Rattle.rw_layout.specs.Layout.{in_front, layout_from, layout_of, last_place, turn_of, ended}
use Rattle.rw_layout.specs.Steps.{so_far, turn_behind}
use Rattle.rw_layout.proofs.Turns.{turn_on, turn_fails, turn_ends, next_token, last_more, fails_on}
use Rattle.rw_layout.proofs.layout.lay_out.Goals as goal

pub returns-in_err-take : goal.returns-in_err-take
returns-in_err-take c =
    let p = err_from_is_err_and c.from_residual.result c.from_residual.ensures.1 in
    let state = c.loop-token.layout in
    let last = last_place c.args.tokens.now in
    let token = c.token-item.result in
    let here = next_token c.args.tokens.now c.loop-token.token-index token c.loop-token-test.true c.token-item.is in
    rw (p.1, p.2) (fails_on (λ (found : Vec Token Global). found.items) c.in_err-take.field-0.0 token.at (so_far c.take.new.self) (option_map (turn_behind state.out.items) (turn_of state.before token state.stack)) (layout_of c.args.tokens.now) c.in_err-take.ensures
    (λ none. sym c.loop-token.invariant.whole ∙ (ap (λ (ts : List Token). in_front state.out.items (layout_from last ts state.before state.stack)) here ∙ turn_fails last state.before state.stack token (drop (c.loop-token.token-index + 1) c.args.tokens.now) state.out.items none)))

pub loop-token-preserved : goal.loop-token-preserved
loop-token-preserved c =
    let state = c.loop-token.layout in
    let last = last_place c.args.tokens.now in
    let token = c.token-item.result in
    let here = next_token c.args.tokens.now c.loop-token.token-index token c.loop-token-test.true c.token-item.is in
    record {
      whole = turn_on last state.before state.stack token (drop (c.loop-token.token-index + 1) c.args.tokens.now) state.out.items (so_far c.take.new.self) c.in_ok-take.ensures ∙ (ap (λ (ts : List Token). in_front state.out.items (layout_from last ts state.before state.stack)) (sym here) ∙ c.loop-token.invariant.whole);
      last = last_more c.args.tokens.now c.loop-token.token-index token c.loop-token-test.true c.token-item.is;
    }

pub returns : goal.returns
returns c =
    let state = c.loop-token.layout in
    let tokens = c.args.tokens.now in
    let last_is : c.loop-token.last ≡ last_place tokens = c.loop-token.invariant.last ∙ ap last_place (take_all c.loop-token.token-index tokens (omega arith)) in
    let none : drop c.loop-token.token-index tokens ≡ [] = drop_all c.loop-token.token-index tokens (omega arith) in
    let whole : in_front state.out.items (ended c.loop-token.last state.before state.stack) ≡ layout_of tokens = ap (λ (at : Place). in_front state.out.items (ended at state.before state.stack)) last_is ∙ (sym (turn_ends (last_place tokens) state.before state.stack state.out.items)
    ∙ (ap (λ (ts : List Token). in_front state.out.items (layout_from (last_place tokens) ts state.before state.stack)) (sym none) ∙ c.loop-token.invariant.whole)) in
    subst (Answers (λ (found : Vec Token Global). found.items) c.end.result) whole c.end.ensures
