-- By the derivation: each constructor of the grammar gives the condition of its tree.
use Rattle.vh_tree_spelling.proofs.Fitted.{spelled_fits}
use Rattle.vh_tree_spelling.proofs.spelling_laws.spelled_designs_are_spellable.Goals as goal

pub returns : goal.returns
returns c = spelled_fits
