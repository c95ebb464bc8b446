-- A turn of the scan goes on, ends or refuses as the list function does.
use Rattle.std.proofs.Common.{◌≡◌, ◌<◌, length, take, drop, ap, sym, ◌∙◌, arith, Vec, Global}
use Rattle.rw_lex.specs.declared.token.Token.{Token}
use Rattle.std.proofs.lemmas.Result.{err_from_is_err_and}
use Rattle.std.proofs.lemmas.Grind.{common_steps}
use Rattle.rw_lex.specs.Scan.{refusal_of}
use Rattle.rw_lex.proofs.Turns.{turn_on, turn_fails, turn_some, turn_end, fails_on}
use Rattle.rw_lex.proofs.scan.scanned.Goals as goal

pub returns-in_err-take : goal.returns-in_err-take
returns-in_err-take c =
    let p = err_from_is_err_and c.from_residual.result c.from_residual.ensures.1 in
    let some : 0 < length c.loop-rest.rest.now = grind (arith, common_steps) in
    rw (p.1, p.2) (fails_on (λ (tokens : Vec Token Global). tokens.items) c.in_err-take.field-0.0 (refusal_of c.piece_at-piece.result c.loop-rest.reader.at) _ c.in_err-take.ensures.refused
    (λ refusal h. sym c.loop-rest.invariant.whole ∙ turn_fails c.piece_at-piece.result c.loop-rest.reader.at c.loop-rest.reader.line c.loop-rest.rest.now c.loop-rest.reader.tokens.items refusal some c.piece_at-piece.ensures.value h))

pub loop-rest-smaller : goal.loop-rest-smaller
loop-rest-smaller c =
    let some : 0 < length c.loop-rest.rest.now = grind (arith, common_steps) in
    let more = turn_some c.piece_at-piece.result c.loop-rest.reader.at c.loop-rest.rest.now some c.piece_at-piece.ensures.value c.in_ok-take.ensures.refused in
    omega (arith, more, c.split_at.ensures.back_len, c.split_at.ensures.front_len, c.len.ensures)

pub loop-rest-preserved : goal.loop-rest-preserved
loop-rest-preserved c =
    let some : 0 < length c.loop-rest.rest.now = grind (arith, common_steps) in
    record {
      whole = turn_on c.piece_at-piece.result c.loop-rest.reader.at c.take.new.self.at c.loop-rest.reader.line c.take.new.self.line c.loop-rest.rest.now c.split_at.result.0.now c.split_at.result.1.now c.loop-rest.reader.tokens.items c.take.new.self.tokens.items some c.piece_at-piece.ensures.value c.in_ok-take.ensures.refused (c.split_at.ensures.front ∙ ap (λ n. take n c.loop-rest.rest.now) c.len.ensures) (c.split_at.ensures.back ∙ ap (λ n. drop n c.loop-rest.rest.now) c.len.ensures) c.in_ok-take.ensures.tokens c.in_ok-take.ensures.at c.in_ok-take.ensures.line ∙ c.loop-rest.invariant.whole;
      line = omega (arith, c.in_ok-take.ensures.lines);
      column = omega (arith, c.in_ok-take.ensures.columns);
    }

pub returns : goal.returns
returns c =
    let none : length c.loop-rest.rest.now ≡ 0 = grind (arith, common_steps) in
    sym c.loop-rest.invariant.whole ∙ turn_end c.loop-rest.reader.at c.loop-rest.reader.line c.loop-rest.rest.now c.loop-rest.reader.tokens.items none
