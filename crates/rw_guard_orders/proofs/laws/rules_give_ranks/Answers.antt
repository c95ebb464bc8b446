-- A stuck set would have a cycle in it, which the rules forbid.
use Rattle.rw_guard_orders.proofs.Cycles.{ranks_of}
use Rattle.rw_guard_orders.proofs.Signalling.{one_set}
use Rattle.rw_guard_orders.proofs.laws.rules_give_ranks.Goals as goal

pub returns : goal.returns
returns c functions devices keeps = let m = one_set functions in ranks_of functions m.0 m.1 devices keeps
