-- What the loop keeps: what was found, before what is left to be found, is the whole.
use Rattle.std.proofs.Common.{◌≡◌, ◌++◌, drop, flat_map}
use Rattle.rw_scope_rules.specs.Groups.{mentioned_in_node}
use Rattle.rw_scope_nodes.specs.Plain.{plain_nodes}
use Rattle.rw_scope_groups.proofs.numbers.mentioned.Given as goal

abbrev pub invariant-loop-node : goal.invariant-loop-node
invariant-loop-node l = l.numbers ++ flat_map mentioned_in_node (plain_nodes (drop l.node-index l.node-items)) ≡ flat_map mentioned_in_node (plain_nodes l.node-items)
