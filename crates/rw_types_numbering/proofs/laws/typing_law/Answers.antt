-- Typed trees are those of rw_types_numbering.
use Rattle.rw_types_numbering.proofs.Typed.{typing_exactly}
use Rattle.rw_types_numbering.proofs.laws.typing_law.Goals as goal

pub returns : goal.returns
returns c = typing_exactly
