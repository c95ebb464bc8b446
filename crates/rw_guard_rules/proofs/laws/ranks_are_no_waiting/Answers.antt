-- Ranks and stuck sets exclude each other, and one of the two is there.
use Rattle.rw_guard_rules.proofs.Worklist.{ends_of, none_left}
use Rattle.rw_guard_rules.proofs.laws.ranks_are_no_waiting.Goals as goal

pub returns-clause-ranks : goal.returns-clause-ranks
returns-clause-ranks c = ends_of

pub returns-clause-waiting : goal.returns-clause-waiting
returns-clause-waiting c = none_left
