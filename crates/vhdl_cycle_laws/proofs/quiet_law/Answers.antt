-- The law of quiet buffers.
use Rattle.vhdl_cycle_laws.proofs.Quiet.{quiet_same}
use Rattle.vhdl_cycle_laws.proofs.quiet_law.Goals as goal

pub returns : goal.returns
returns c = quiet_same
