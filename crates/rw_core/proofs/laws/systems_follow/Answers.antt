-- Readings that agree on the parts of a system agree on it.
use Rattle.rw_core.proofs.Systems.{system_agrees, system_follows, system_follows_in_time}
use Rattle.rw_core.proofs.laws.systems_follow.Goals as goal

pub returns-clause-agrees : goal.returns-clause-agrees
returns-clause-agrees g c = system_agrees

pub returns-clause-follows : goal.returns-clause-follows
returns-clause-follows g c = system_follows

pub returns-clause-in_time : goal.returns-clause-in_time
returns-clause-in_time g c = system_follows_in_time
