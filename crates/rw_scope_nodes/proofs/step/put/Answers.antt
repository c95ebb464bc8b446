-- Three tasks are put on the list.
use Rattle.rw_scope_nodes.proofs.Steps.{left_three}
use Rattle.rw_scope_nodes.proofs.step.put.Goals as goal

pub returns-clause-nodes : goal.returns-clause-nodes
returns-clause-nodes g c = left_three _ _ _ _ _ _ _ c.in_ok-push.ensures.items c.in_ok-push-2.ensures.items c.in_ok-push-3.ensures.items
