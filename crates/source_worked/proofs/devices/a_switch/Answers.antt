-- Computed by the checker.
use Rattle.std.proofs.Common.{refl}
use Rattle.rw_meaning.specs.Evaluation.{result_within}
use Rattle.rw_meaning.specs.Trace.{act_within, trace_within}
use Rattle.rw_meaning.specs.Outputs.{data_within}
use Rattle.source_worked.proofs.devices.a_switch.Goals as goal

pub returns : goal.returns
unfolding result_within act_within trace_within data_within
returns c = refl
