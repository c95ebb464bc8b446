-- One node more.
use Rattle.rw_scope_nodes.specs.Plain.{plain_node}
use Rattle.rw_cover.specs.Coverage.{node_group}
use Rattle.rw_cover.proofs.Groups.{next_first}
use Rattle.rw_cover.proofs.program.first_of_nodes.Goals as goal

pub loop-node-preserved : goal.loop-node-preserved
loop-node-preserved c =
    next_first (node_group c.args.counts.now c.args.known.now) plain_node c.args.nodes.now c.loop-node.node-index c.node-item.result
    c.loop-node.first c.in_ok-node_place.field-0 c.sooner-first.result c.loop-node-test.true c.node-item.is c.loop-node.invariant c.in_ok-node_place.ensures c.sooner-first.ensures
