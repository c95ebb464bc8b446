-- By computing.
use Rattle.flat_worked.proofs.Flattening.{listed, all_listed}
use Rattle.flat_worked.proofs.flattened.instances_are_listed.Goals as goal

pub returns-clause-listed : goal.returns-clause-listed
returns-clause-listed c = listed

pub returns-clause-all : goal.returns-clause-all
returns-clause-all c = all_listed
