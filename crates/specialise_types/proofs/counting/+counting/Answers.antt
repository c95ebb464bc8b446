-- Part by part.
use Rattle.std.proofs.Common.{◌+◌, ◌<◌, ℕ, min, map, get_or, take, ap, sym, ◌∙◌, subst, arith}
use Rattle.rw_types_solving.specs.Types.{nodes}
use Rattle.rw_types_shared.specs.Shared.{shown, type_at, AreBelow}
use Rattle.specialise_types.proofs.Below.{below_at, parts_are, parts_below}
use Rattle.specialise_types.proofs.Nodes.{so_far, so_far_first, so_far_last, so_far_all, capped_more, capped_within}
use Rattle.specialise_types.proofs.counting.+counting.Goals as goal

pub loop-part-init : goal.loop-part-init
loop-part-init t c = so_far_first c.args.nodes.now c.args.n c.in-Some.node.now c.min-sum.result c.args.limit c.own.result c.as_slice-part-items.result.now c.in-Some.ensures.lookup.3.0 c.in-Some.ensures.lookup.1 c.min-sum.ensures c.own.ensures

pub overflow_sub-limit : goal.overflow_sub-limit
overflow_sub-limit t c = capped_within c.args.limit _ c.loop-part.sum c.loop-part.invariant

pub count-sum-requires : goal.count-sum-requires
count-sum-requires t c =
    let here = c.in-Some.ensures.lookup in
    let below : get_or c.as_slice-part-items.result.now c.loop-part.part-index 0 < c.args.n =
    below_at c.args.n c.as_slice-part-items.result.now c.loop-part.part-index 0
    (subst (AreBelow c.args.n) (sym c.as_slice-part-items.ensures.value) (parts_below c.args.nodes.now c.args.n c.in-Some.node.now c.requires here.3.0 here.1)) c.loop-part-test.true in
    (omega arith, c.requires)

pub loop-part-preserved : goal.loop-part-preserved
loop-part-preserved t c =
    let table = map shown c.args.nodes.now in let items = c.as_slice-part-items.result.now in let i = c.loop-part.part-index in
    capped_more c.args.limit (so_far table c.args.n (take i items)) (nodes (type_at table (get_or items i 0))) c.loop-part.sum _ c.loop-part.invariant (ap (λ (z : ℕ). c.loop-part.sum + z) c.count-sum.ensures)
    ∙ ap (min c.args.limit) (sym (so_far_last table c.args.n items i c.loop-part-test.true))

pub returns : goal.returns
returns t c =
    let here = c.in-Some.ensures.lookup in
    c.loop-part.invariant
    ∙ ap (min c.args.limit) (so_far_all (map shown c.args.nodes.now) c.args.n c.loop-part.part-index c.as_slice-part-items.result.now c.requires
    (c.as_slice-part-items.ensures.value ∙ parts_are c.args.nodes.now c.args.n c.in-Some.node.now here.3.0 here.1) c.loop-part-test.false)
