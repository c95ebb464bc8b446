-- The set grows until nothing is missed.
use Rattle.rw_guard_orders.proofs.Signalling.{one_set, same_set}
use Rattle.rw_guard_orders.proofs.laws.one_must_signal.Goals as goal

pub returns-clause-some : goal.returns-clause-some
returns-clause-some c = one_set

pub returns-clause-one : goal.returns-clause-one
returns-clause-one c = same_set
