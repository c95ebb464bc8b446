-- A change that is not quiet in time.
use Rattle.std.proofs.Common.{sym, ◌∙◌}
use Rattle.vh_tree.specs.Bench.{text_schedule}
use Rattle.vh_tree_plain.proofs.Late.{late_reads}
use Rattle.vh_tree_plain.proofs.changes.+readings.Goals as goal

pub returns-in-Err : goal.returns-in-Err
returns-in-Err t c =
    late_reads c.args.most c.args.design.now (text_schedule c.args.design.now) c.args.change c.args.state c.in-Err.late (sym c.in_ok-late.ensures ∙ c.in-Err.is) c.args.inputs.now
