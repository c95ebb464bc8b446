-- No parameter is left.
use Rattle.vh_tree_static.proofs.Widened.{no_more}
use Rattle.vh_tree_static.proofs.widths.behind.Goals as goal

pub returns-in-empty-clause-passes : goal.returns-in-empty-clause-passes
returns-in-empty-clause-passes c = λ ns. no_more c.args.width ns c.args.params.now c.in-empty.len_below
