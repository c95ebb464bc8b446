-- Weights and depths by the ranks.
use Rattle.rw_guard_orders.proofs.Weighing.{weighed, weighed_once}
use Rattle.rw_guard_orders.proofs.laws.one_weighing.Goals as goal

pub returns-clause-some : goal.returns-clause-some
returns-clause-some c = weighed

pub returns-clause-one : goal.returns-clause-one
returns-clause-one c = weighed_once
