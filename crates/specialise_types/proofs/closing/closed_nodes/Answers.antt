-- One node more.
use Rattle.std.proofs.Common.{ℕ, List, map, length, ap, sym, ◌∙◌, subst, arith}
use Rattle.std.proofs.lemmas.List.{length_push}
use Rattle.rw_types_solving.specs.Types.{Ty, app, tys}
use Rattle.rw_types_shared.specs.Shared.{shown, type_at, AreBelow}
use Rattle.rw_types_shared.proofs.Sharing.{extends_itself, extends_on}
use Rattle.rw_types_instances.specs.Instances.{closed_by}
use Rattle.specialise_types.specs.Closed.{AreClosed}
use Rattle.specialise_types.proofs.Below.{parts_below}
use Rattle.specialise_types.proofs.Closed.{arguments_kept, still_below, closed_first, closed_next}
use Rattle.specialise_types.proofs.closing.closed_nodes.Goals as goal

pub loop-node-init : goal.loop-node-init
loop-node-init c = record {
  proper = c.requires.proper;
  kept = extends_itself c.args.types.now;
  many = ap length c.new-made.ensures.items;
  closed = closed_first _ _ _ _ c.new-made.ensures.items;
}

pub closed_node-requires : goal.closed_node-requires
closed_node-requires c =
    let so_far = c.loop-node.invariant in let old = c.args.types.now in let now = c.loop-node.types in let ks = c.args.arguments.now in let made = c.as_slice.ensures.value in
    record {
      proper = so_far.proper;
      own = c.requires.own;
      arguments = still_below old now ks so_far.kept c.requires.arguments;
      made = subst (AreClosed (map (type_at now) ks) (map shown c.args.nodes.now) now) (sym made)
          (subst (λ (z : List Ty). AreClosed z (map shown c.args.nodes.now) now c.loop-node.made.items) (arguments_kept old now ks c.requires.proper so_far.kept c.requires.arguments) so_far.closed);
      parts = subst (λ (z : ℕ). AreBelow z c.node-item.result.parts.items) (sym (ap length made ∙ so_far.many))
          (parts_below c.args.nodes.now c.loop-node.node-index c.node-item.result c.requires.own c.loop-node-test.true c.node-item.is);
    }

pub loop-node-preserved : goal.loop-node-preserved
loop-node-preserved c =
    let so_far = c.loop-node.invariant in let e = c.in_ok-number.ensures in let more = c.in_ok-push.ensures.items in let old = c.args.types.now in let now = c.loop-node.types in let ks = c.args.arguments.now in
    record {
      proper = e.proper;
      kept = extends_on _ _ _ so_far.kept e.kept;
      many = ap length more ∙ length_push c.loop-node.made.items c.in_ok-number.number ∙ (let m = so_far.many in omega arith);
      closed = closed_next (map (type_at old) ks) c.args.nodes.now now _ c.loop-node.made.items _ c.loop-node.node-index c.in_ok-number.number c.node-item.result c.requires.own so_far.proper e.kept
          c.loop-node-test.true c.node-item.is so_far.many e.within more
          (e.is ∙ ap (λ (z : List Ty). closed_by z (app c.node-item.result.head (tys (map (type_at (map shown c.args.nodes.now)) c.node-item.result.parts.items))))
          (sym (arguments_kept old now ks c.requires.proper so_far.kept c.requires.arguments)))
          so_far.closed;
    }
