-- What the loop keeps: the table says what the constructors from here on are, before what was there.
use Rattle.std.proofs.Common.{◌≡◌, ◌≤◌, ◌++◌, drop, length, map}
use Rattle.rw_tree.specs.Declarations.{plain_constructor}
use Rattle.rw_scope_rules.specs.Names.{Bytes, first_named}
use Rattle.rw_scope_rules.specs.Bindings.{placed_constructors}
use Rattle.rw_scope_binding.proofs.fill.put_constructors.Given as goal

abbrev pub invariant-loop-at : goal.invariant-loop-at
invariant-loop-at l = record {
  within : l.at ≤ length l.constructors;
  told : (x : Bytes) → first_named x l.table ≡ first_named x (placed_constructors l.decl l.at (map plain_constructor (drop l.at l.constructors)) ++ l.fn.table);
}

abbrev pub decreases-loop-at : goal.decreases-loop-at
decreases-loop-at l = l.at
