-- By what the two tests say.
use Rattle.std.proofs.Common.{◌∙◌}
use Rattle.rw_types.proofs.ByKind.{carried_both, first_then, first_else}
use Rattle.rw_types.proofs.carried.are_carried.Goals as goal
use Rattle.rw_types.proofs.carried.are_carried.Goals.{then-sorted, else-sorted}

pub returns : goal.returns
returns c =
    let both = carried_both _ _ _ _ _ _ _ _ _ _ _ c.requires c.in_ok-sorts.ensures c.as_slice.ensures c.in_ok-states.ensures c.as_slice-2.ensures c.all_sorted-sorted.ensures c.all_state_monads-stacked.ensures in
    elim c.if-sorted.branch [ then-sorted w ↦ first_then _ _ _ _ w.if-sorted.true w.result-is both | else-sorted w ↦ first_else _ _ _ _ w.if-sorted.false (w.result-is ∙ w.if-sorted.false) both ]
