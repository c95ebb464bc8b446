-- Traces keep their count of outputs.
use Rattle.rw_core.proofs.Counts.{counts_and_on, counts_without_state, length-shown}
use Rattle.rw_core.proofs.laws.traces_count.Goals as goal

pub returns-clause-going_on : goal.returns-clause-going_on
returns-clause-going_on g c = counts_and_on

pub returns-clause-dropping : goal.returns-clause-dropping
returns-clause-dropping g c = counts_without_state

pub returns-clause-showing : goal.returns-clause-showing
returns-clause-showing g c = length-shown
