-- A system shows one output more than inputs.
use Rattle.rw_core.proofs.Systems.{length-system_outputs}
use Rattle.rw_core.proofs.laws.one_more_output.Goals as goal

pub returns : goal.returns
returns g c = length-system_outputs
