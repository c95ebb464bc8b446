-- What the search leaves: a call, by its arguments' values, and the functions of one item more.
use Rattle.std.proofs.Common.{◌≡◌, ◌++◌, List, map, OnOk, ap, sym, subst, ◌∙◌}
use Rattle.vh_tree.specs.Bits.{Bits}
use Rattle.vh_tree.specs.Functions.{expr_of, scope_in, calls_of}
use Rattle.vh_tree.specs.declared.expr.VExpr.{VExpr}
use Rattle.vh_tree_plain.proofs.Calls.{last_signal, last_same, last_other, call_value}
use Rattle.vh_tree_plain.proofs.expr.+plain.Goals as goal

pub append_value-returns-in_ok-values-in-Call : goal.append_value-returns-in_ok-values-in-Call
append_value-returns-in_ok-values-in-Call t c =
    let calls = calls_of c.args.items.now in
    let s = scope_in calls c.args.store.now in
    subst (λ (x : Bits). OnOk c.append_call.result (c.append_call.new.out.items ≡ c.args.out.now.items ++ x))
    (call_value c.args.e.now c.in-Call.name c.in-Call.args c.deref-in-Call.result.now calls c.args.store.now c.in-Call.is
    (c.deref-in-Call.ensures.value ∙ c.in_ok-values-in-Call.ensures ∙ ap (λ (xs : List VExpr). map (λ a. expr_of a s) xs) c.as_slice-in-Call.ensures)) c.append_call.ensures

pub append_last-returns-in-Signal : goal.append_last-returns-in-Signal
append_last-returns-in-Signal t c =
    subst (λ (x : Bits). OnOk c.append_call.result (c.append_call.new.out.items ≡ c.args.out.now.items ++ x))
    (last_signal c.args.earlier.now c.args.last.now c.in-Signal.field-0 c.in-Signal.is c.args.name.now c.args.args.now) c.append_call.ensures

pub append_last-returns-then-same : goal.append_last-returns-then-same
append_last-returns-then-same t c =
    subst (λ (x : Bits). OnOk c.append_function.result (c.append_function.new.out.items ≡ c.args.out.now.items ++ x))
    (last_same c.args.earlier.now c.args.last.now c.in-Function.f c.in-Function.is c.args.name.now c.args.args.now (sym c.same.ensures ∙ c.if-same.true)) c.append_function.ensures

pub append_last-returns-else-same : goal.append_last-returns-else-same
append_last-returns-else-same t c =
    subst (λ (x : Bits). OnOk c.append_call-else-same.result (c.append_call-else-same.new.out.items ≡ c.args.out.now.items ++ x))
    (last_other c.args.earlier.now c.args.last.now c.in-Function.f c.in-Function.is c.args.name.now c.args.args.now (sym c.same.ensures ∙ c.if-same.false)) c.append_call-else-same.ensures
