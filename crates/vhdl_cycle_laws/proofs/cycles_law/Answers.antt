-- The laws of delta cycles in a row.
use Rattle.vhdl_cycle_laws.proofs.Settling.{cycles_stand, settling_stands}
use Rattle.vhdl_cycle_laws.proofs.cycles_law.Goals as goal

pub returns-clause-cycles : goal.returns-clause-cycles
returns-clause-cycles c = cycles_stand c.delta_law.ensures c.order_law.ensures.one_cycle

pub returns-clause-settles : goal.returns-clause-settles
returns-clause-settles c = settling_stands (cycles_stand c.delta_law.ensures c.order_law.ensures.one_cycle) c.settling_law.ensures
