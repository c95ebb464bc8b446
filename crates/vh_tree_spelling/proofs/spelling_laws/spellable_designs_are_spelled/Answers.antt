-- The canonical tokens spell the design, and the canonical text spells the tokens.
use Rattle.vh_tree_spelling.proofs.MadeDesign.{canonical_spelled}
use Rattle.vh_tree_spelling.proofs.spelling_laws.spellable_designs_are_spelled.Goals as goal

pub returns : goal.returns
returns c = canonical_spelled
