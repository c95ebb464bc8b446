-- What the loop keeps: what was found, before what is left to be found in nodes, is the whole.
use Rattle.std.proofs.Common.{◌≡◌, ◌++◌, drop, flat_map}
use Rattle.rw_scope_nodes.specs.Plain.{plain_nodes}
use Rattle.rw_scope_kinds.specs.Contexts.{fits_signature, wrong_in_node}
use Rattle.rw_scope_kinds.proofs.wrong.misused.Given as goal

abbrev pub invariant-loop-node : goal.invariant-loop-node
invariant-loop-node l =
    l.places.items ++ flat_map (wrong_in_node (fits_signature l.signatures)) (plain_nodes (drop l.node-index l.node-items))
    ≡ l.initial.places.items ++ flat_map (wrong_in_node (fits_signature l.signatures)) (plain_nodes l.node-items)
