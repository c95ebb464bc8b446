-- The law of a delta cycle.
use Rattle.vhdl_cycle_laws.proofs.Statements.{agreeing_stmts}
use Rattle.vhdl_cycle_laws.proofs.Cycle.{delta_stands}
use Rattle.vhdl_cycle_laws.proofs.delta_law.Goals as goal

pub returns : goal.returns
returns c = delta_stands agreeing_stmts c.frames_law.ensures
