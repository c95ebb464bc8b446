-- Ranks leave no cycle.
use Rattle.rw_guard_rules.proofs.Ranks.{no_cycle}
use Rattle.rw_guard_rules.proofs.laws.ranks_leave_no_cycle.Goals as goal

pub returns : goal.returns
returns c = no_cycle
