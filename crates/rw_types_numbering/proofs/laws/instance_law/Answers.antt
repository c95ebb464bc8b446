-- Label by label.
use Rattle.rw_types_numbering.proofs.Typed.{instance_is}
use Rattle.rw_types_numbering.proofs.laws.instance_law.Goals as goal

pub returns : goal.returns
returns c = instance_is
