-- Node by node.
use Rattle.rw_types_numbering.proofs.Fitting.{typing_is}
use Rattle.rw_types_numbering.proofs.definitions.typing_law.Goals as goal

pub returns : goal.returns
returns c = typing_is
