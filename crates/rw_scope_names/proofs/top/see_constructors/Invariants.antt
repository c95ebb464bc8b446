-- What the loop keeps: the constructors that are left are judged behind those that were seen.
use Rattle.std.proofs.Common.{◌≡◌, ◌++◌, List, drop, map}
use Rattle.rw_base.specs.declared.place.Span.{Span}
use Rattle.rw_tree.specs.Declarations.{plain_constructor}
use Rattle.rw_scope_rules.specs.Names.{Bytes, repeated}
use Rattle.rw_scope_rules.specs.Scope.{spread}
use Rattle.rw_scope_names.proofs.top.see_constructors.Given as goal

abbrev pub invariant-loop-constructor : goal.invariant-loop-constructor
invariant-loop-constructor l =
    (rest : List (Bytes × Span)) → l.places.items ++ repeated l.seen (spread l.at (map (λ c. c.constructor_name) (map plain_constructor (drop l.constructor-index l.constructors))) ++ rest)
    ≡ l.fn.places.items ++ repeated l.fn.seen (spread l.at (map (λ c. c.constructor_name) (map plain_constructor l.constructors)) ++ rest)
