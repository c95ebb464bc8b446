-- What is left of the cycle: what comes to what.
use Rattle.std.proofs.Common.{arith}
use Rattle.std.proofs.lemmas.Result.{IfOk-weaker}
use Rattle.rw_types_solving.proofs.Resolving.{larger_zero, comes_known, comes_app, comes_under, come_next, come_whole, size_next, all_larger}
use Rattle.rw_types_solving.proofs.resolve.+resolving.Goals as goal

pub resolved-returns-then-budget-eq0-clause-refused :
    goal.resolved-returns-then-budget-eq0-clause-refused
resolved-returns-then-budget-eq0-clause-refused t c = λ _. larger_zero _ _ _ c.if-budget-eq0.true

pub resolved-returns-in-Known-clause-made : goal.resolved-returns-in-Known-clause-made
resolved-returns-in-Known-clause-made t c = IfOk-weaker c.resolved_under.result _ _ (λ r m. comes_known _ _ _ _ _ _ c.in-Var.is c.in-Known.ensures m) c.resolved_under.ensures.made

pub resolved-returns-in-App-clause-made : goal.resolved-returns-in-App-clause-made
resolved-returns-in-App-clause-made t c = IfOk-weaker c.resolved_under-in-App.result _ _ (λ r m. comes_app _ _ _ _ _ _ c.in-App.is c.as_slice.ensures m) c.resolved_under-in-App.ensures.made

pub resolved_all-returns-in-Err-clause-refused : goal.resolved_all-returns-in-Err-clause-refused
resolved_all-returns-in-Err-clause-refused t c = λ e.
    all_larger _ c.args.terms.now c.loop-term.term-index c.term-item.result c.loop-term.all c.loop-term.left c.args.budget (omega arith) c.term-item.is c.loop-term.invariant.made
    c.loop-term.invariant.left (c.in-Err.ensures.refused (cc))

pub resolved_all-loop-term-preserved : goal.resolved_all-loop-term-preserved
resolved_all-loop-term-preserved t c =
    let grown = size_next c.loop-term.all _ c.in-Ok.one c.in_ok-push-in-Ok.ensures.ok in
    let before = c.loop-term.invariant.left in
    let paid = c.in-Ok.ensures.left in record {
      made = come_next _ c.args.terms.now c.loop-term.term-index c.term-item.result c.loop-term.all _ c.in-Ok.one (omega arith) c.term-item.is c.loop-term.invariant.made c.in-Ok.ensures.made
          c.in_ok-push-in-Ok.ensures.ok;
      left = omega arith;
    }

pub resolved_all-returns-clause-made : goal.resolved_all-returns-clause-made
resolved_all-returns-clause-made t c = come_whole _ c.args.terms.now c.loop-term.term-index c.loop-term.all (omega arith) c.loop-term.invariant.made

pub resolved_under-returns-in-Ok-clause-made : goal.resolved_under-returns-in-Ok-clause-made
resolved_under-returns-in-Ok-clause-made t c = comes_under _ c.args.head _ c.in-Ok.all c.in-Ok.ensures.made
