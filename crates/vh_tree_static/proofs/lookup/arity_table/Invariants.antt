-- What the functions from here on have is known.
use Rattle.std.proofs.Common.{◌≡◌, ◌≤◌, drop, length}
use Rattle.vh_tree.specs.Bits.{Bytes}
use Rattle.vh_tree.specs.StaticRules.{arity_in, functions_of}
use Rattle.rw_base_tables.specs.Tables.{known_in}
use Rattle.vh_tree_static.proofs.lookup.arity_table.Given as goal

abbrev pub invariant-loop-at : goal.invariant-loop-at
invariant-loop-at l = record {
  within : l.at ≤ length l.items;
  known : (x : Bytes) → known_in l.arities x ≡ arity_in (functions_of (drop l.at l.items)) x;
}

abbrev pub decreases-loop-at : goal.decreases-loop-at
decreases-loop-at l = l.at
