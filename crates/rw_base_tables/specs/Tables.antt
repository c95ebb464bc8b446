-- What a table says of names.
use Rattle.std.specs.Prelude.{ℕ, List, [], ◌∷◌, Bool, nat_eq, Option, Some, None, if◌then◌else◌}
use lib.Pointwise.{pointwise}

-- a name: its bytes
abbrev pub Bytes : Type 0
Bytes = List ℕ

-- whether two names are the same
abbrev pub same_name : Bytes → Bytes → Bool
same_name = pointwise nat_eq

-- what each name has, if it has anything
abbrev pub Known : Type 0 → Type 0
Known V = Bytes → Option V

-- names with what they have; the first of a name counts
abbrev pub known_in : {V : Type 0} → List (Bytes × V) → Known V
known_in [] x = None
known_in (e ∷ es) x = if same_name e.0 x then Some e.1 else known_in es x

-- and where this name has this
abbrev pub put : {V : Type 0} → Bytes → V → Known V → Known V
put name value known x = if same_name name x then Some value else known x
