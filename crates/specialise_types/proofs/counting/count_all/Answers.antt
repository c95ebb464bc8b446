-- Type by type.
use Rattle.std.proofs.Common.{◌+◌, ℕ, min, map, get_or, take, ap, sym, ◌∙◌}
use Rattle.std.specs.List.{sum_by}
use Rattle.rw_types_solving.specs.Types.{nodes}
use Rattle.rw_types_shared.specs.Shared.{shown, type_at}
use Rattle.specialise_types.proofs.Nodes.{list_last, capped_more, capped_within}
use Rattle.specialise_types.proofs.counting.count_all.Goals as goal

pub overflow_sub-limit : goal.overflow_sub-limit
overflow_sub-limit c = capped_within c.args.limit _ c.loop-n.sum c.loop-n.invariant

pub loop-n-preserved : goal.loop-n-preserved
loop-n-preserved c =
    let table = map shown c.args.nodes.now in let ks = c.args.numbers.now in let i = c.loop-n.n-index in
    capped_more c.args.limit (sum_by nodes (map (type_at table) (take i ks))) (nodes (type_at table (get_or ks i 0))) c.loop-n.sum _ c.loop-n.invariant (ap (λ (z : ℕ). c.loop-n.sum + z) c.count-sum.ensures)
    ∙ ap (min c.args.limit) (sym (list_last table ks i c.loop-n-test.true))
