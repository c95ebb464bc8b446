-- A node that isn't stuck is on no circle.
use Rattle.std.proofs.Common.{sym}
use Rattle.rw_scope_graph.proofs.Circling.{free_not_circular}
use Rattle.rw_scope_graph.proofs.circle.is_on_circle.Goals as goal

pub returns-else-held-node : goal.returns-else-held-node
returns-else-held-node c = sym (free_not_circular c.args.graph.now c.args.held.now c.requires.held c.args.node c.if-held-node.false)
