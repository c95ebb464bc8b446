-- One mark more.
use Rattle.std.proofs.Common.{◌∙◌, sym}
use Rattle.specialise_tables.proofs.Looked.{marked_next}
use Rattle.specialise_tables.proofs.marks.Marks.has_all.Goals as goal

pub loop-n-preserved : goal.loop-n-preserved
loop-n-preserved c = marked_next c.args.self.now c.args.numbers.now c.loop-n.n-index 0 c.loop-n-test.true (sym c.has.ensures ∙ c.if-not-has.false) c.loop-n.invariant
