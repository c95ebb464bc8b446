-- By what reading gives.
use Rattle.vh_tree_reading.proofs.ReadWhole.{judged}
use Rattle.vh_tree_reading.proofs.reading_laws.every_text_is_judged.Goals as goal

pub returns : goal.returns
returns c = judged
