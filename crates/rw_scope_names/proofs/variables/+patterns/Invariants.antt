-- What the loop keeps: the patterns that are left are judged behind what was seen.
use Rattle.std.proofs.Common.{◌≡◌, ◌++◌, List, drop}
use Rattle.rw_base.specs.declared.place.Span.{Span}
use Rattle.rw_tree.specs.Views.{itself}
use Rattle.rw_tree.specs.Patterns.{patterns}
use Rattle.rw_scope_rules.specs.Names.{Bytes, repeated}
use Rattle.rw_scope_rules.specs.Bindings.{row_variables}
use Rattle.rw_scope_names.proofs.variables.+patterns.Given as goal

abbrev pub invariant-see_row-loop-pat : goal.invariant-see_row-loop-pat
invariant-see_row-loop-pat l =
    (rest : List (Bytes × Span)) → l.places.items ++ repeated l.seen (row_variables (patterns itself (drop l.pat-index l.pats)) ++ rest)
    ≡ l.fn.places.items ++ repeated l.fn.seen (row_variables (patterns itself l.pats) ++ rest)
