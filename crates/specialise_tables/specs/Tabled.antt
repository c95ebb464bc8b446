-- A table of closed data types by numbers, and the types that were looked at.
use Rattle.std.specs.Prelude.{◌≡◌, ◌<◌, ℕ, Bool, true, false, List, [], ◌∷◌, map, length, get_or}
use Rattle.std.specs.List.{list_any}
use Rattle.rw_types_solving.specs.Types.{Ty}
use Rattle.rw_types_shared.specs.Shared.{Node, type_at, AreBelow}
use Rattle.specialise_rules.specs.Instances.{same_type}
use Rattle.specialise_rules.specs.Tables.{data_in}

-- each of these types is in the table
abbrev pub AreIn : List Ty → List Ty → Type 0
AreIn table [] = Unit {0}
AreIn table (t ∷ ts) = (list_any (same_type t) table ≡ true) × AreIn table ts

-- whether the number is marked; one without a mark is not
abbrev pub is_marked : List Bool → ℕ → Bool
is_marked marks n = get_or marks n false

abbrev pub AreMarked : List Bool → List ℕ → Type 0
AreMarked marks [] = Unit {0}
AreMarked marks (n ∷ ns) = (is_marked marks n ≡ true) × AreMarked marks ns

-- the types in a table
abbrev pub tabled : List Node → List ℕ → List Ty
tabled types numbers = map (type_at types) numbers

-- what is marked was looked at: the data types that stand in it are in the table. What is in the table is marked
pub record IsLooked (types : List Node) (numbers : List ℕ) (marks : List Bool) : Type 0 where
  pub within : AreBelow (length types) numbers
  pub marked : AreMarked marks numbers
  pub below : (n : ℕ) → is_marked marks n ≡ true → n < length types
  pub known : (n : ℕ) → is_marked marks n ≡ true → AreIn (tabled types numbers) (data_in (type_at types n))
