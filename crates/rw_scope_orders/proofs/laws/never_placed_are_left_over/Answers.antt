-- What is left over is what is never placed.
use Rattle.rw_scope_orders.proofs.Groups.{map-left_over, none_left_over}
use Rattle.rw_scope_orders.proofs.laws.never_placed_are_left_over.Goals as goal

pub returns-clause-same : goal.returns-clause-same
returns-clause-same c = map-left_over

pub returns-clause-none : goal.returns-clause-none
returns-clause-none c = none_left_over
