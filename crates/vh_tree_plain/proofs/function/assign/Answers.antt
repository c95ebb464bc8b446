-- At the first variable of that name.
use Rattle.std.proofs.Common.{◌≡◌, ◌<◌, length, true, rules, ap, ◌∙◌}
use Rattle.vh_tree.specs.Bits.{same_name}
use Rattle.vh_tree.specs.Functions.{stored}
use Rattle.vh_tree_plain.proofs.Stored.{stored_at}
use Rattle.vh_tree_plain.proofs.function.assign.Goals as goal

pub returns-then-same : goal.returns-then-same
returns-then-same c =
    let h = c.index_mut-held.result.now in
    let same : same_name h.name c.args.name.now ≡ true = search rules in
    let lt : c.loop-at.at < length c.loop-at.store.items = search rules in
    stored_at c.args.name.now c.args.value c.loop-at.store.items c.loop-at.at h lt c.index_mut-held.ensures.value same c.loop-at.invariant.1
    ∙ ap (stored c.args.name.now c.args.value) c.loop-at.invariant.0
