-- The marked bindings are those that are never placed.
use Rattle.std.proofs.Common.{◌∙◌, arith}
use Rattle.rw_tree.specs.Views.{itself}
use Rattle.rw_tree.specs.Trees.{local_binding}
use Rattle.rw_scope_groups.proofs.Placing.{group_done}
use Rattle.rw_scope_groups.proofs.cycles.in_group.Goals as goal

pub returns : goal.returns
returns c =
    group_done (local_binding itself) c.args.bindings.now c.as_slice.result.now c.in_ok-marks.marks.items c.loop-i.i c.loop-i.places.items c.args.places.now.items (c.as_slice.ensures ∙ c.in_ok-graph.ensures) c.in_ok-marks.ensures
    (omega arith) c.loop-i.invariant
