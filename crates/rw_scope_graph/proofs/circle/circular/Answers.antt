-- All nodes are judged.
use Rattle.std.proofs.Common.{arith}
use Rattle.rw_scope_graph.proofs.Circling.{all_judged}
use Rattle.rw_scope_graph.proofs.circle.circular.Goals as goal

pub returns : goal.returns
returns c =
    let counted = c.loop-node.marks.ok.0 in
    all_judged c.args.graph.now c.loop-node.marks.items c.loop-node.node (omega arith) (omega arith) c.loop-node.invariant.exact
