-- What the loop keeps: what was found, before what is left to be found, is the whole.
use Rattle.std.proofs.Common.{◌≡◌, ◌++◌, drop, map, flat_map}
use Rattle.rw_scope_kinds.specs.Mentions.{ill_by, plain_made}
use Rattle.rw_scope_kinds.proofs.recursive.ill_places.Given as goal

abbrev pub invariant-loop-one : goal.invariant-loop-one
invariant-loop-one l = l.places.items ++ flat_map (ill_by l.table l.marks) (map plain_made (drop l.one-index l.all)) ≡ flat_map (ill_by l.table l.marks) (map plain_made l.all)
