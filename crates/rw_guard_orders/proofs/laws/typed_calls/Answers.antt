-- By the typing of the body.
use Rattle.rw_guard_orders.proofs.Typings.{plain_call, callees_there}
use Rattle.rw_guard_orders.proofs.laws.typed_calls.Goals as goal

pub returns-clause-plain : goal.returns-clause-plain
returns-clause-plain c = plain_call

pub returns-clause-present : goal.returns-clause-present
returns-clause-present c = callees_there
