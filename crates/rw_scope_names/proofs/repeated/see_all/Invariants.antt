-- What the loop keeps: the names that are left are judged behind those that were seen.
use Rattle.std.proofs.Common.{◌≡◌, ◌++◌, List, drop}
use Rattle.rw_base.specs.declared.place.Span.{Span}
use Rattle.rw_scope_rules.specs.Names.{Bytes, repeated}
use Rattle.rw_scope_rules.specs.Scope.{spread}
use Rattle.rw_scope_names.proofs.repeated.see_all.Given as goal

abbrev pub invariant-loop-name : goal.invariant-loop-name
invariant-loop-name l =
    (rest : List (Bytes × Span)) → l.places.items ++ repeated l.seen (spread l.at (drop l.name-index l.names) ++ rest) ≡ l.fn.places.items ++ repeated l.fn.seen (spread l.at l.names ++ rest)
