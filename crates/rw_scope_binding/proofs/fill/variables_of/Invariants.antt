-- What the loop keeps: the table says what the declarations from here on declare.
use Rattle.std.proofs.Common.{◌≡◌, ◌≤◌, drop, length, map}
use Rattle.rw_tree.specs.Views.{itself}
use Rattle.rw_tree.specs.Declarations.{declaration}
use Rattle.rw_scope_rules.specs.Names.{Bytes, first_named}
use Rattle.rw_scope_rules.specs.Bindings.{declared_by, declared_variables}
use Rattle.rw_scope_binding.proofs.fill.variables_of.Given as goal

abbrev pub invariant-loop-at : goal.invariant-loop-at
invariant-loop-at l = record {
  within : l.at ≤ length l.decls;
  told : (x : Bytes) → first_named x l.variables ≡ first_named x (declared_by declared_variables l.at (map (declaration itself) (drop l.at l.decls)));
}

abbrev pub decreases-loop-at : goal.decreases-loop-at
decreases-loop-at l = l.at
