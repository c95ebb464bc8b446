-- What the table of signatures says.
use Rattle.std.specs.Prelude.{List, Option, Some, None}
use Rattle.rw_tree.specs.Types.{WrittenType, written}
use Rattle.rw_scope_rules.specs.Names.{Bytes, first_named}
use Rattle.rw_types_world.specs.declared.signed.Signed.{Signed}

-- the first of the two, if there is one
abbrev pub or_then : {V : Type 0} → Option V → Option V → Option V
or_then None r = r
or_then (Some v) r = Some v

abbrev pub seen_signed : Option Signed → Option WrittenType
seen_signed None = None
seen_signed (Some s) = Some (written s.ty.now)

-- the type that the name has by the table
abbrev pub signed_in : List (Bytes × Signed) → Bytes → Option WrittenType
signed_in table x = seen_signed (first_named x table)
