-- One row more: it is the longest, or the width stays.
use Rattle.std.proofs.Common.{arith, subst, sym, take}
use Rattle.rw_cover_matrix.specs.Matching.{plain_rows}
use Rattle.rw_cover_matrix.proofs.Plains.{IsWidth, width_step_kept, width_step_more}
use Rattle.rw_cover_matrix.proofs.measures.widest.Goals as goal
use Rattle.rw_cover_matrix.proofs.measures.widest.Goals.{then-len-width, else-len-width}

pub loop-row-preserved : goal.loop-row-preserved
loop-row-preserved c =
    elim c.if-len-width.branch [
      | then-len-width w ↦
          width_step_more c.loop-row.width c.if-len-width.width c.args.rows.now c.loop-row.row-index c.row-item.result c.loop-row-test.true c.row-item.is
          (omega arith) (omega arith) c.loop-row.invariant
      | else-len-width w ↦
          width_step_kept c.if-len-width.width c.args.rows.now c.loop-row.row-index c.row-item.result c.loop-row-test.true c.row-item.is
          (omega arith) (subst (λ n. IsWidth n (plain_rows (take c.loop-row.row-index c.args.rows.now))) (sym w.width-is) c.loop-row.invariant)
    ]
