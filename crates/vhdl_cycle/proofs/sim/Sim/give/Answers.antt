-- A port given a value over the buffers.
use Rattle.vhdl_cycle.proofs.Changing.{given_runs, given_state}
use Rattle.vhdl_cycle.proofs.sim.Sim.give.Goals as goal

pub returns-clause-runs : goal.returns-clause-runs
returns-clause-runs c = given_runs c.port_law.ensures.given _ _ _ _ c.give_buffers.ensures.flat c.give_buffers.ensures.same

pub returns-clause-given : goal.returns-clause-given
returns-clause-given c = given_state c.port_law.ensures.given _ _ c.args.self.now c.give_buffers.new.self c.give_buffers.ensures.flat
