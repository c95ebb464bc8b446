-- Each is an instance of the other before its variables are closed.
use Rattle.rw_types_laws.proofs.Defaults.{one_default}
use Rattle.rw_types_laws.proofs.laws.one_default_law.Goals as goal

pub returns : goal.returns
returns c = one_default
