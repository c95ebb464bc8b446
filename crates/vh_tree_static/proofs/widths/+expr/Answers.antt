-- A part more, and an argument more.
use Rattle.std.proofs.Common.{sym, ◌∙◌}
use Rattle.vh_tree_static.specs.Measures.{widths_over}
use Rattle.rw_base_tables.specs.Tables.{known_in}
use Rattle.vh_tree_static.proofs.Parts.{fits_on, total_more}
use Rattle.vh_tree_static.proofs.widths.+expr.Goals as goal

pub parts_width-loop-part-preserved : goal.parts_width-loop-part-preserved
parts_width-loop-part-preserved t c =
    let ws = widths_over (known_in c.args.vars.now) c.args.callees.now in
    record {
      fits = sym (fits_on ws c.args.parts.now c.loop-part.part-index c.part-item.result c.loop-part-test.true c.part-item.is c.in_ok-measure.ensures.0) ∙ c.loop-part.invariant.fits;
      total = total_more ws c.args.parts.now c.loop-part.part-index c.part-item.result c.loop-part-test.true c.part-item.is c.loop-part.total c.in_ok-measure.field-0 c.sum-total.result
          c.loop-part.invariant.total c.in_ok-measure.ensures.1 c.sum-total.ensures;
    }
