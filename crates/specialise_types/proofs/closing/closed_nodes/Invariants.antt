-- The nodes so far are closed.
use Rattle.std.proofs.Common.{◌≡◌, map, length}
use Rattle.rw_types_shared.specs.Shared.{shown, type_at, IsProper, Extends}
use Rattle.specialise_types.specs.Closed.{AreClosed}
use Rattle.specialise_types.proofs.closing.closed_nodes.Given as goal

abbrev pub invariant-loop-node : goal.invariant-loop-node
invariant-loop-node l = record {
  proper : IsProper l.types;
  kept : Extends l.fn.types l.types;
  many : length l.made.items ≡ l.node-index;
  closed : AreClosed (map (type_at l.fn.types) l.arguments) (map shown l.nodes) l.types l.made.items;
}
