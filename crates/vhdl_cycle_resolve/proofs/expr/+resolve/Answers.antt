-- What the productions of expressions give.
use Rattle.std.proofs.Common.{List, map, sym, ap, ◌∙◌}
use Rattle.std.specs.List.{flat_map}
use Rattle.vh_tree.specs.Bits.{Bits}
use Rattle.vh_tree.specs.Functions.{Scope, expr_of as means}
use Rattle.vh_tree_equations.specs.Equations.{expr_of-Call, expr_of-Literal}
use Rattle.vh_tree.specs.declared.expr.VExpr.{VExpr}
use Rattle.vhdl_cycle_flat.specs.Flat.{expr_of, joined}
use Rattle.vhdl_cycle_flat.specs.Names.{called_over, scope_over}
use Rattle.vhdl_cycle_resolve.specs.Over.{slots_in, frames_in}
use Rattle.vhdl_cycle_resolve.proofs.Joined.{same_value, args_joined}
use Rattle.vhdl_cycle_resolve.proofs.expr.+resolve.Goals as goal

pub resolve_expr-returns-in-Literal : goal.resolve_expr-returns-in-Literal
resolve_expr-returns-in-Literal t c =
    same_value c.literal.result (λ n frame. c.as_slice.result.now) (λ n frame. means c.args.e.now (scope_over (slots_in c.args.slots.now) (frames_in c.args.funs.now) n frame))
    (λ n frame. let s = scope_over (slots_in c.args.slots.now) (frames_in c.args.funs.now) n frame in
    c.as_slice.ensures ∙ sym (ap (λ v. means v s) c.in-Literal.is ∙ expr_of-Literal c.in-Literal.bits s)) c.literal.ensures

pub resolve_expr-returns-in_ok-args-in-Call : goal.resolve_expr-returns-in_ok-args-in-Call
resolve_expr-returns-in_ok-args-in-Call t c =
    let g = frames_in c.args.funs.now c.in-Call.name in
    let args = c.in_ok-args-in-Call.args in
    same_value c.resolve_call.result (λ n frame. called_over g n (joined (map expr_of args.exprs) n frame)) (λ n frame. means c.args.e.now (scope_over (slots_in c.args.slots.now) (frames_in c.args.funs.now) n frame))
    (λ n frame.
    let s = scope_over (slots_in c.args.slots.now) (frames_in c.args.funs.now) n frame in
    let all = c.in_ok-args-in-Call.ensures n frame ∙ ap (λ (es : List VExpr). flat_map (λ (m : Scope → Bits). m s) (map means es)) c.as_slice-in-Call.ensures in
    ap (called_over g n) (all ∙ sym (args_joined s (map means c.in-Call.args)))
    ∙ sym (ap (λ v. means v s) c.in-Call.is ∙ expr_of-Call c.in-Call.name c.in-Call.args s)) c.resolve_call.ensures
