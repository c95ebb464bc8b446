-- The last guard decides.
use Rattle.rw_cover.proofs.RowForms.{total_is}
use Rattle.rw_cover.proofs.clause.is_total.Goals as goal

pub returns-else-is_empty : goal.returns-else-is_empty
returns-else-is_empty c =
    total_is c.args.known.now c.args.rhs.now c.in-Guarded.guards c.as_slice-guards.result.now c.index-guards-guards.result c.always.result
    c.in-Guarded.is c.as_slice-guards.ensures c.if-is_empty.ensures c.index-guards-guards.is c.always.ensures
