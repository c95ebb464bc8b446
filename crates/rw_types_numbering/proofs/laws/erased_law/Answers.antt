-- The label keeps what stood there.
use Rattle.rw_types_numbering.proofs.Typed.{erased_is}
use Rattle.rw_types_numbering.proofs.laws.erased_law.Goals as goal

pub returns : goal.returns
returns c = erased_is
