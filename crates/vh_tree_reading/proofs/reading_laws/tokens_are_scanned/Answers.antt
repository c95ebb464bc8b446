-- Both ways.
use Rattle.vh_tree_reading.proofs.ScanComplete.{scanned_sound, scanned_complete}
use Rattle.vh_tree_reading.proofs.reading_laws.tokens_are_scanned.Goals as goal

pub returns : goal.returns
returns c = λ bytes tokens. (scanned_complete bytes tokens, scanned_sound bytes tokens)
