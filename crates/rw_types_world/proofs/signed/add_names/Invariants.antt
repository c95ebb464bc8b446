-- What the table says, and then the names that are left, is the whole.
use Rattle.std.proofs.Common.{◌≡◌, map, drop}
use Rattle.rw_tree.specs.Types.{written}
use Rattle.rw_scope_rules.specs.Names.{Bytes, first_named}
use Rattle.rw_types_world.specs.Signatures.{or_then, signed_in}
use Rattle.rw_types_world.proofs.signed.add_names.Given as goal

abbrev pub invariant-loop-name : goal.invariant-loop-name
invariant-loop-name l =
    (x : Bytes) → or_then (signed_in l.table x) (first_named x (map (λ y. (y, written l.ty)) (drop l.name-index l.names))) ≡ or_then (signed_in l.fn.table x) (first_named x (map (λ y. (y, written l.ty)) l.names))
