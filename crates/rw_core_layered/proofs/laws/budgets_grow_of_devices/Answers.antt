-- A greater budget changes nothing.
use Rattle.rw_core_layered.proofs.Growing.{call_grows, outputs_grow}
use Rattle.rw_core_layered.proofs.laws.budgets_grow_of_devices.Goals as goal

pub returns-clause-calls : goal.returns-clause-calls
returns-clause-calls c = call_grows

pub returns-clause-outputs : goal.returns-clause-outputs
returns-clause-outputs c = outputs_grow
