-- The node is found, and what stands in it is left.
use Rattle.rw_scope_nodes.proofs.Steps.{on_ok, found_one}
use Rattle.rw_scope_nodes.proofs.step.find_binding.Goals as goal

pub returns-clause-nodes : goal.returns-clause-nodes
returns-clause-nodes g c = on_ok c.put.result (λ h. found_one _ _ _ _ _ _ _ c.in_ok-push.ensures.items c.binding_parts.ensures h) c.put.ensures.nodes

pub returns-clause-found : goal.returns-clause-found
returns-clause-found g c = on_ok c.put.result (λ h. c.in_ok-push.ensures.len) c.put.ensures.count

pub returns-clause-count : goal.returns-clause-count
returns-clause-count g c = c.put.ensures.count
