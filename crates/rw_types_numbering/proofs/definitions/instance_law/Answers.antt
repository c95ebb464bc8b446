-- Label by label.
use Rattle.rw_types_numbering.proofs.Instances.{instance_is}
use Rattle.rw_types_numbering.proofs.definitions.instance_law.Goals as goal

pub returns : goal.returns
returns c = instance_is
