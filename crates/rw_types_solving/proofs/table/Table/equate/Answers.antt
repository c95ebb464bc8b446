-- Each way out of a round, and the next round.
use Rattle.std.proofs.Common.{◌∙◌, sym}
use Rattle.std.proofs.lemmas.Result.{err_from_is_err_and}
use Rattle.rw_types_solving.proofs.Turns.{left_too_large, right_too_large, a_turn, turn_done, turn_clash, turn_endless, turn_below, turn_on, turn_falls}
use Rattle.rw_types_solving.proofs.table.Table.equate.Goals as goal

pub returns-in_err-left-clause-refused : goal.returns-in_err-left-clause-refused
returns-in_err-left-clause-refused c = λ e.
    let p = err_from_is_err_and c.from_residual.result c.from_residual.ensures.1 in
    left_too_large _ _ _ _ _ c.rounds.invariant c.as_slice.ensures (c.in_err-left.ensures.refused (cc))

pub returns-in_err-right-clause-refused : goal.returns-in_err-right-clause-refused
returns-in_err-right-clause-refused c = λ e.
    let p = err_from_is_err_and c.from_residual-in_err-right.result c.from_residual-in_err-right.ensures.1 in
    right_too_large _ _ _ _ _ c.rounds.invariant c.as_slice-in-rounds.ensures (c.in_err-right.ensures.refused (cc))

pub returns-in-Same-clause-narrowed : goal.returns-in-Same-clause-narrowed
returns-in-Same-clause-narrowed c =
    let k = a_turn _ _ _ _ _ _ _ _ c.rounds.invariant c.as_slice.ensures c.as_slice-in-rounds.ensures c.in_ok-left.ensures.made c.in_ok-right.ensures.made c.requires.a_uses c.requires.b_uses in
    turn_done _ _ _ _ _ _ k c.in-Same.ensures

pub returns-in-Clash-clause-refused : goal.returns-in-Clash-clause-refused
returns-in-Clash-clause-refused c = λ _.
    let k = a_turn _ _ _ _ _ _ _ _ c.rounds.invariant c.as_slice.ensures c.as_slice-in-rounds.ensures c.in_ok-left.ensures.made c.in_ok-right.ensures.made c.requires.a_uses c.requires.b_uses in
    turn_clash _ _ _ _ _ _ k c.in-Clash.ensures

pub returns-then-has-clause-refused : goal.returns-then-has-clause-refused
returns-then-has-clause-refused c = λ _.
    let k = a_turn _ _ _ _ _ _ _ _ c.rounds.invariant c.as_slice.ensures c.as_slice-in-rounds.ensures c.in_ok-left.ensures.made c.in_ok-right.ensures.made c.requires.a_uses c.requires.b_uses in
    turn_endless _ _ _ _ _ _ k _ _ c.in-At.ensures (sym c.has.ensures ∙ c.if-has.true)

pub set-requires : goal.set-requires
set-requires c =
    let k = a_turn _ _ _ _ _ _ _ _ c.rounds.invariant c.as_slice.ensures c.as_slice-in-rounds.ensures c.in_ok-left.ensures.made c.in_ok-right.ensures.made c.requires.a_uses c.requires.b_uses in
    turn_below _ _ _ _ _ _ k _ _ c.in-At.ensures (sym c.has.ensures ∙ c.if-has.false)

pub rounds-smaller-in_ok-by-in-At : goal.rounds-smaller-in_ok-by-in-At
rounds-smaller-in_ok-by-in-At c =
    let k = a_turn _ _ _ _ _ _ _ _ c.rounds.invariant c.as_slice.ensures c.as_slice-in-rounds.ensures c.in_ok-left.ensures.made c.in_ok-right.ensures.made c.requires.a_uses c.requires.b_uses in
    turn_falls _ _ _ _ _ _ k _ _ _ _ c.in-At.ensures (sym c.has.ensures ∙ c.if-has.false) c.set.ensures c.in_ok-by-in-At.ensures

pub rounds-preserved-in_ok-by-in-At : goal.rounds-preserved-in_ok-by-in-At
rounds-preserved-in_ok-by-in-At c =
    let k = a_turn _ _ _ _ _ _ _ _ c.rounds.invariant c.as_slice.ensures c.as_slice-in-rounds.ensures c.in_ok-left.ensures.made c.in_ok-right.ensures.made c.requires.a_uses c.requires.b_uses in
    turn_on _ _ _ _ _ _ k _ _ _ _ c.in-At.ensures (sym c.has.ensures ∙ c.if-has.false) c.set.ensures c.in_ok-by-in-At.ensures

pub rounds-smaller : goal.rounds-smaller
rounds-smaller c =
    let k = a_turn _ _ _ _ _ _ _ _ c.rounds.invariant c.as_slice.ensures c.as_slice-in-rounds.ensures c.in_ok-left.ensures.made c.in_ok-right.ensures.made c.requires.a_uses c.requires.b_uses in
    turn_falls _ _ _ _ _ _ k _ _ _ _ c.in-At.ensures (sym c.has.ensures ∙ c.if-has.false) c.set.ensures c.in_ok-by-in-At.ensures

pub rounds-preserved : goal.rounds-preserved
rounds-preserved c =
    let k = a_turn _ _ _ _ _ _ _ _ c.rounds.invariant c.as_slice.ensures c.as_slice-in-rounds.ensures c.in_ok-left.ensures.made c.in_ok-right.ensures.made c.requires.a_uses c.requires.b_uses in
    turn_on _ _ _ _ _ _ k _ _ _ _ c.in-At.ensures (sym c.has.ensures ∙ c.if-has.false) c.set.ensures c.in_ok-by-in-At.ensures
