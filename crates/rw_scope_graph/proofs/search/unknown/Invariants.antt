-- What the loop keeps: nothing is known of the nodes so far.
use Rattle.std.proofs.Common.{◌≡◌, map, take}
use Rattle.rw_scope_graph.specs.declared.search.State.TheVariants.{New}
use Rattle.rw_scope_graph.proofs.search.unknown.Given as goal

abbrev pub invariant-loop-row : goal.invariant-loop-row
invariant-loop-row l = l.states.items ≡ map (λ row. New) (take l._row-index l.graph)
