-- A front of instances within the limits is within them.
use Rattle.specialise_laws.proofs.Limiting.{first_much, all_listed}
use Rattle.specialise_laws.proofs.laws.first_too_much_law.Goals as goal

pub returns-clause-much : goal.returns-clause-much
returns-clause-much c world typed list table i w e much = first_much world typed list table i w e much

pub returns-clause-all : goal.returns-clause-all
returns-clause-all c world typed list table w e = all_listed world typed list table w e
