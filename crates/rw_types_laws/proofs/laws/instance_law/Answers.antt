-- Node by node.
use Rattle.rw_types_laws.proofs.Closing.{instance_agrees}
use Rattle.rw_types_laws.proofs.laws.instance_law.Goals as goal

pub returns : goal.returns
returns c = instance_agrees
