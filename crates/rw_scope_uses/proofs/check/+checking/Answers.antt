-- Where a part of a type is judged behind another.
use Rattle.std.proofs.Common.{refl, sym, ◌∙◌}
use Rattle.rw_scope_uses.specs.Contexts.{takes_in}
use Rattle.rw_scope_uses.proofs.Walking.{on_ok, head_wrong, head_right, left_right, other_count}
use Rattle.rw_scope_uses.proofs.check.+checking.Goals as goal

pub check_arguments-returns-then-not-branch : goal.check_arguments-returns-then-not-branch
check_arguments-returns-then-not-branch t c =
    head_wrong (takes_in c.args.context.now) c.args.context.now.arrows c.args.ty.now c.in-Apply.head c.get.result.now c.in-Apply.parts c.in-Apply.parts c.args.kinds.now _ _ _ _
    c.in-Apply.is c.get.ensures refl c.split_at.ensures.front c.split_at.ensures.back c.saturating_sub.ensures c.len.ensures _ _ _ c.if-not-branch.true c.in_ok-check_arguments-in-Apply.ensures

pub check_arguments-returns-else-not-branch : goal.check_arguments-returns-else-not-branch
check_arguments-returns-else-not-branch t c =
    on_ok c.check_parts.result (λ fits k. head_right (takes_in c.args.context.now) c.args.context.now.arrows c.args.ty.now c.in-Apply.head c.get.result.now c.in-Apply.parts c.as_slice.result.now c.args.kinds.now _ _ _ _
    c.in-Apply.is c.get.ensures c.as_slice.ensures c.split_at.ensures.front c.split_at.ensures.back c.saturating_sub.ensures c.len.ensures _ _ _ _ c.if-not-branch.false c.in_ok-check_arguments-in-Apply.ensures k)
    c.check_parts.ensures

pub check_arguments-returns-else-not-branch-2 : goal.check_arguments-returns-else-not-branch-2
check_arguments-returns-else-not-branch-2 t c =
    on_ok c.check_boxed-in-Fun.result (λ fits k. left_right (takes_in c.args.context.now) c.args.context.now.arrows c.args.ty.now c.in-Fun.from c.in-Fun.to c.in-Fun.to c.in-Fun.from c.args.kinds.now _ _ _ _
    c.in-Fun.is refl refl (sym c.is_empty-in-Fun.ensures ∙ c.if-not-is_empty.false) c.if-not-context.false c.if-not-branch-2.false c.in_ok-check_boxed-in-Fun.ensures k) c.check_boxed-in-Fun.ensures

pub check_parts-returns-then-parts-kinds : goal.check_parts-returns-then-parts-kinds
check_parts-returns-then-parts-kinds t c = other_count (takes_in c.args.context.now) c.args.context.now.arrows c.args.parts.now c.args.kinds.now _ c.if-parts-kinds.true
