-- At the first wire of that name.
use Rattle.std.proofs.Common.{◌≡◌, ◌<◌, length, true, rules, ap, ◌∙◌}
use Rattle.vh_tree.specs.Bits.{same_name}
use Rattle.vh_tree.specs.DeltaCycle.{put}
use Rattle.vh_tree_plain.proofs.Stored.{put_at}
use Rattle.vh_tree_plain.proofs.process.set_pending.Goals as goal

pub returns-then-same_bytes : goal.returns-then-same_bytes
returns-then-same_bytes c =
    let h = c.index_mut-wire.result.now in
    let same : same_name h.name c.args.name.now ≡ true = search rules in
    let lt : c.loop-at.at < length c.loop-at.wires.items = search rules in
    put_at c.args.name.now c.args.value c.loop-at.wires.items c.loop-at.at h lt c.index_mut-wire.ensures.value same c.loop-at.invariant.1
    ∙ ap (put c.args.name.now c.args.value) c.loop-at.invariant.0
