-- Node by node.
use Rattle.rw_types_numbering.proofs.Typed.{seen_is}
use Rattle.rw_types_numbering.proofs.laws.seen_law.Goals as goal

pub returns : goal.returns
returns c = seen_is
