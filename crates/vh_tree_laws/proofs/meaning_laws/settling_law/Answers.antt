-- Settling is the first quiet state.
use Rattle.vh_tree_laws.proofs.Settling.{settled_is_first}
use Rattle.vh_tree_laws.proofs.meaning_laws.settling_law.Goals as goal

pub returns : goal.returns
returns c = settled_is_first
