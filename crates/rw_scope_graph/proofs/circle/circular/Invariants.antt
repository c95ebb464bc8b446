-- What the loop keeps: the nodes so far are marked where they are on a circle.
use Rattle.std.proofs.Common.{◌≡◌, ℕ, ◌<◌, vec_len}
use Rattle.rw_scope_graph.specs.Waiting.{marked}
use Rattle.rw_scope_graph.specs.Circles.{is_circular}
use Rattle.rw_scope_graph.proofs.circle.circular.Given as goal

abbrev pub invariant-loop-node : goal.invariant-loop-node
invariant-loop-node l = record {
  sized : vec_len l.marks ≡ l.node;
  exact : (i : ℕ) → i < l.node → marked l.marks.items i ≡ is_circular l.graph i;
}
