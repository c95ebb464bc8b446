-- The law of calls.
use Rattle.vhdl_cycle_laws.proofs.Frames.{frames_give_calls}
use Rattle.vhdl_cycle_laws.proofs.agreeing.frames_law.Goals as goal

pub returns : goal.returns
returns c = frames_give_calls
