-- What the loop keeps: what was bound, before what is left to be bound, is the whole.
use Rattle.std.proofs.Common.{◌≡◌, ◌+◌, ◌++◌, length, drop}
use Rattle.rw_tree.specs.Views.{itself}
use Rattle.rw_tree.specs.Patterns.{patterns}
use Rattle.rw_scope_rules.specs.Bindings.{row_variables}
use Rattle.rw_scope_binding.specs.Numbered.{known, numbered_row}
use Rattle.rw_scope_binding.proofs.pattern.+patterns.Given as goal

abbrev pub invariant-bind_row-loop-pat : goal.invariant-bind_row-loop-pat
invariant-bind_row-loop-pat l = record {
  trees : patterns itself l.bound ++ numbered_row (known l.tops) l.number (patterns itself (drop l.pat-index l.pats)) ≡ numbered_row (known l.tops) l.fn.number (patterns itself l.pats);
  count : l.number + length (row_variables (patterns itself (drop l.pat-index l.pats))) ≡ l.fn.number + length (row_variables (patterns itself l.pats));
}
