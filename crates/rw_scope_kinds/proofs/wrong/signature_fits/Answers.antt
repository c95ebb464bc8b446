-- The type fits, and its variables are judged.
use Rattle.rw_tree.specs.Types.{written}
use Rattle.rw_scope_uses.specs.Contexts.{takes_in}
use Rattle.rw_scope_uses.specs.Spine.{plain_uses}
use Rattle.std.proofs.Common.{◌∙◌, ap, []}
use Rattle.rw_scope_kinds.specs.Agreeing.{agree_after}
use Rattle.rw_scope_uses.proofs.Walking.{on_ok}
use Rattle.rw_scope_kinds.proofs.Whole.{signature_right}
use Rattle.rw_scope_kinds.proofs.wrong.signature_fits.Goals as goal

pub returns : goal.returns
returns c =
    on_ok c.all_agree.result
    (λ all says. signature_right (takes_in c.args.context.now) c.args.context.now.arrows (written c.args.ty.now) c.new-uses.result.items (plain_uses c.add_uses.new.uses.items) c.in_ok-add_uses.field-0 all
    c.new-uses.ensures.items c.if-not-branch.false c.in_ok-add_uses.ensures (says ∙ ap (λ us. agree_after [] (plain_uses us)) c.as_slice.ensures.value))
    c.all_agree.ensures
