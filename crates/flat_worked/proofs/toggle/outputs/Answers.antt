-- Its outputs, computed.
use Rattle.std.proofs.Common.{refl}
use Rattle.rw_core_flat.specs.Programs.{call_within}
use Rattle.flat_worked.proofs.toggle.outputs.Goals as goal

pub returns : goal.returns
unfolding call_within
returns c = refl
