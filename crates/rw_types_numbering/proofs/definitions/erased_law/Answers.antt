-- The label keeps what stood there.
use Rattle.rw_types_numbering.proofs.Instances.{erased_is}
use Rattle.rw_types_numbering.proofs.definitions.erased_law.Goals as goal

pub returns : goal.returns
returns c = erased_is
