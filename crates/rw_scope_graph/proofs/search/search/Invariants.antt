-- What the loop keeps, and what is left to do.
use Rattle.std.proofs.Common.{◌≡◌, false}
use Rattle.rw_scope_graph.specs.Search.{IsSearched, IsKept, new_at, work_of}
use Rattle.rw_scope_graph.proofs.search.search.Given as goal

abbrev pub invariant-loop-frame : goal.invariant-loop-frame
invariant-loop-frame l = record {
  searched : IsSearched l.graph l.states l.stack;
  kept : IsKept l.fn.states l.states;
  known : new_at l.states l.node ≡ false;
}

abbrev pub decreases-loop-frame : goal.decreases-loop-frame
decreases-loop-frame l = work_of l.graph l.states l.stack
