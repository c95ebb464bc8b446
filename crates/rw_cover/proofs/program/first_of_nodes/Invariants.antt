-- What the loop keeps: the first place so far is that of the nodes so far.
use Rattle.std.proofs.Common.{flat_map, take}
use Rattle.rw_scope_nodes.specs.Plain.{plain_nodes}
use Rattle.rw_cover.specs.Coverage.{node_group}
use Rattle.rw_cover.specs.Correct.{IsFirst}
use Rattle.rw_cover.proofs.program.first_of_nodes.Given as goal

abbrev pub invariant-loop-node : goal.invariant-loop-node
invariant-loop-node l = IsFirst (flat_map (node_group l.counts l.known) (plain_nodes (take l.node-index l.nodes))) l.first
