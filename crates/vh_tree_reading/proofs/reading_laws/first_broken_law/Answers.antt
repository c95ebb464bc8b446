-- No rule is broken exactly where all hold.
use Rattle.vh_tree_reading.proofs.FirstBroken.{first_broken_tells}
use Rattle.vh_tree_reading.proofs.reading_laws.first_broken_law.Goals as goal

pub returns : goal.returns
returns c = first_broken_tells
