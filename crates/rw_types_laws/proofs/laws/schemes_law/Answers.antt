-- Declaration by declaration.
use Rattle.rw_types_laws.proofs.Known.{schemes_known}
use Rattle.rw_types_laws.proofs.laws.schemes_law.Goals as goal

pub returns : goal.returns
returns c = schemes_known
