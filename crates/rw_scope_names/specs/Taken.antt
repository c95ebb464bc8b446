-- The operations, in two halves.
use Rattle.std.specs.Prelude.{List, [], ◌∷◌, codes}
use Rattle.rw_scope_rules.specs.Names.{Bytes}

abbrev pub first_operations : List Bytes
first_operations = codes "return" ∷ codes ">>=" ∷ codes ">>" ∷ codes "get" ∷ codes "put" ∷ []

abbrev pub last_operations : List Bytes
last_operations = codes "lift" ∷ codes "signal" ∷ codes "extrude" ∷ codes "par" ∷ codes "refold" ∷ []
