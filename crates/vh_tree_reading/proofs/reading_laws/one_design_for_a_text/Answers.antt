-- Both are what reading gives.
use Rattle.vh_tree_reading.proofs.ReadWhole.{one_design}
use Rattle.vh_tree_reading.proofs.reading_laws.one_design_for_a_text.Goals as goal

pub returns : goal.returns
returns c = one_design
