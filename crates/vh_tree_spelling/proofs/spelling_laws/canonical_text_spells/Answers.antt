-- The canonical tokens spell the design, and the canonical text spells the tokens.
use Rattle.vh_tree_spelling.proofs.AgainWhole.{canonical_again}
use Rattle.vh_tree_spelling.proofs.spelling_laws.canonical_text_spells.Goals as goal

pub returns : goal.returns
returns c = canonical_again
