-- Its outputs, computed.
use Rattle.std.proofs.Common.{refl}
use Rattle.rw_core_layered.specs.Devices.{trace_within}
use Rattle.middle_worked.proofs.toggle.shown_as_layered.Goals as goal

pub returns : goal.returns
unfolding trace_within
returns c = refl
