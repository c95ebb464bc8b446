-- Both ways.
use Rattle.vh_tree_reading.proofs.ReadWhole.{design_of_sound, design_of_complete}
use Rattle.vh_tree_reading.proofs.reading_laws.designs_are_read.Goals as goal

pub returns : goal.returns
returns c = λ tokens design. (design_of_complete tokens design, design_of_sound tokens design)
