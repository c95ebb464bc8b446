-- By the lemma of solving.
use Rattle.rw_types_solving.proofs.StateMonads.{state_back}
use Rattle.rw_types.proofs.laws.general_state_monad.Goals as goal

pub returns : goal.returns
returns c = state_back
