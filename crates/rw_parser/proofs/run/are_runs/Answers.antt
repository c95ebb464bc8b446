-- Run after run.
use Rattle.std.proofs.Common.{◌≡◌, ◌∙◌, ◌+◌, ◌-◌, ◌∷◌, [], true, false, sym, ap, arith, rules, length, drop, take, is_some}
use Rattle.rw_parser_grammar.specs.declared.lexeme.Mark.TheVariants as m
use Rattle.rw_parser_reading.specs.Read.{sees}
use Rattle.rw_parser_reading.specs.ReadProgram.{is_none, runs_at}
use Rattle.rw_parser.proofs.Runs.{are_none, are_unended, are_more, are_last}
use Rattle.rw_parser.proofs.run.are_runs.Goals as goal

pub returns-in_default : goal.returns-in_default
returns-in_default c = sym (are_unended (length c.args.tokens.now - c.loop-turn._turn) c.loop-turn.rest.now c.in_default.ensures.ends) ∙ c.loop-turn.invariant

pub returns-then-sees : goal.returns-then-sees
returns-then-sees c =
    let rest = c.loop-turn.rest.now in
    let run = c.in-Some.run' in
    let e = c.in-Some.ensures.ends.1 in
    let ended : c.tokens_from-end.result.now ≡ e.0 ∷ drop (run + 1) rest = c.tokens_from-end.ensures ∙ e.2 in
    let behind : c.rest_of-behind.result.now ≡ drop (run + 1) rest = c.rest_of-behind.ensures.rest ∙ ap (drop 1) ended in
    let closes : sees m.ClosesBlock (e.0 ∷ []) ≡ true = sym (ap (sees m.ClosesBlock) ended) ∙ sym c.sees.ensures ∙ c.if-sees.true in
    c.is_none.ensures ∙ ap is_none behind
    ∙ sym (are_last (length c.args.tokens.now - c.loop-turn._turn) (length c.args.tokens.now - (c.loop-turn._turn + 1)) rest (take run rest) e.0 (drop (run + 1) rest) (omega arith) e.1 closes)
    ∙ c.loop-turn.invariant

pub loop-turn-preserved : goal.loop-turn-preserved
loop-turn-preserved c =
    let rest = c.loop-turn.rest.now in
    let run = c.in-Some.run' in
    let e = c.in-Some.ensures.ends.1 in
    let ended : c.tokens_from-end.result.now ≡ e.0 ∷ drop (run + 1) rest = c.tokens_from-end.ensures ∙ e.2 in
    let behind : c.rest_of-behind.result.now ≡ drop (run + 1) rest = c.rest_of-behind.ensures.rest ∙ ap (drop 1) ended in
    let goes_on : sees m.ClosesBlock (e.0 ∷ []) ≡ false = sym (ap (sees m.ClosesBlock) ended) ∙ sym c.sees.ensures ∙ c.if-sees.false in
    ap (λ z. is_some (runs_at (length c.args.tokens.now - (c.loop-turn._turn + 1)) z)) behind
    ∙ sym (are_more (length c.args.tokens.now - c.loop-turn._turn) (length c.args.tokens.now - (c.loop-turn._turn + 1)) rest (take run rest) e.0 (drop (run + 1) rest) (omega arith) e.1 goes_on)
    ∙ c.loop-turn.invariant

pub returns : goal.returns
returns c = sym (are_none (length c.args.tokens.now - c.loop-turn._turn) c.loop-turn.rest.now (omega arith)) ∙ c.loop-turn.invariant
