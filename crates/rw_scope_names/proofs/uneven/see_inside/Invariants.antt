-- What the loop keeps: the places so far are those of the nodes so far.
use Rattle.std.proofs.Common.{◌≡◌, ◌++◌, take, flat_map}
use Rattle.rw_scope_rules.specs.Scope.{uneven_in_node}
use Rattle.rw_scope_nodes.specs.Plain.{plain_nodes}
use Rattle.rw_scope_names.proofs.uneven.see_inside.Given as goal

abbrev pub invariant-loop-node : goal.invariant-loop-node
invariant-loop-node l = l.places.items ≡ l.fn.places.items ++ flat_map uneven_in_node (plain_nodes (take l.node-index l.node-items))
