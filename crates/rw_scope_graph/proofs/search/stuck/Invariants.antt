-- What the loops keep: the nodes so far are known, and the marks so far are of those that are held.
use Rattle.std.proofs.Common.{◌≡◌, ℕ, ◌<◌, [], false, map, take}
use Rattle.rw_scope_graph.specs.Search.{IsSearched, new_at, is_held}
use Rattle.rw_scope_graph.proofs.search.stuck.Given as goal

abbrev pub invariant-loop-node : goal.invariant-loop-node
invariant-loop-node l = record {
  searched : IsSearched l.graph l.states.items [];
  empty : l.stack ≡ [];
  known : (i : ℕ) → i < l.node → new_at l.states.items i ≡ false;
}

abbrev pub invariant-loop-state : goal.invariant-loop-state
invariant-loop-state l = l.marks.items ≡ map is_held (take l.state-index l.state-items)
