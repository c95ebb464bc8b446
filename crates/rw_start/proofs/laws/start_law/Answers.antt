-- The laws.
use Rattle.rw_start.proofs.Counted.{both_hold, heads_left_out}
use Rattle.rw_start.proofs.laws.start_law.Goals as goal

pub returns-clause-holds : goal.returns-clause-holds
returns-clause-holds c = both_hold

pub returns-clause-heads : goal.returns-clause-heads
returns-clause-heads c = heads_left_out
