-- Annotations do not matter to systems.
use Rattle.rw_systems_laws.proofs.Annotated.{start_alike, system_alike}
use Rattle.rw_systems_laws.proofs.laws.annotations_do_not_matter.Goals as goal

pub returns-clause-start : goal.returns-clause-start
returns-clause-start g c = start_alike

pub returns-clause-system : goal.returns-clause-system
returns-clause-system g c = system_alike
