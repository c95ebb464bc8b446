-- A row that was seen is one of the rows.
use Rattle.std.proofs.Common.{subst}
use Rattle.rw_cover_matrix.specs.Matching.{plain_row}
use Rattle.rw_cover_matrix.specs.Columns.{IsOpen}
use Rattle.rw_cover_matrix.proofs.Plains.{open_at}
use Rattle.rw_cover_matrix.proofs.measures.has_open.Goals as goal

pub returns-then-is_open : goal.returns-then-is_open
returns-then-is_open c = λ t.
    open_at c.args.rows.now c.loop-row.row-index c.row-item.result c.loop-row-test.true c.row-item.is
    (subst (λ x. IsOpen (plain_row x)) c.as_slice.ensures (c.is_open.ensures c.if-is_open.true))
