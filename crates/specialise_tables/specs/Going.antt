-- What is still to be done: types are to be seen, and data types go into the table, one after the other.
use Rattle.std.specs.Prelude.{◌≡◌, ◌⊎◌, ◌+◌, ℕ, suc, Bool, ◌||◌, nat_eq, true, false, List, [], ◌∷◌, ◌++◌, map, length}
use Rattle.std.specs.List.{flat_map}
use Rattle.rw_types_solving.specs.Types.{Ty}
use Rattle.rw_types_rules.specs.Schemes.{World}
use Rattle.rw_types_shared.specs.Shared.{Node, type_at, AreBelow, IsProper}
use Rattle.specialise_rules.specs.Tables.{data_in, fields_of, Sees}
use Rattle.specialise_rules.specs.Limits.{most_types}
use Rattle.specialise_tables.specs.Tabled.{is_marked, AreMarked, IsLooked}
use Rattle.specialise_tables.specs.declared.stack.Task.{Task}
use Rattle.specialise_tables.specs.declared.stack.Task.TheVariants as task

-- a type is seen, or it goes into the table
pub data Step : Type 0 where
  see : Ty → Step
  put : Ty → Step

-- after these steps a table has grown to this
abbrev pub Goes : World → List Step → List Ty → List Ty → Type 0
Goes world [] table after = after ≡ table
Goes world (see t ∷ steps) table after = (between : List Ty) × Sees world table (data_in t) between × Goes world steps between after
Goes world (put t ∷ steps) table after = Goes world steps (table ++ t ∷ []) after

-- these steps from this table come to the same as those from that
pub record GoesOn (world : World) (steps : List Step) (table : List Ty) (later : List Step) (grown : List Ty) : Type 0 where
  pub on : (after : List Ty) → Goes world steps table after → Goes world later grown after
  pub back : (after : List Ty) → Goes world later grown after → Goes world steps table after

-- how many types go into the table
abbrev pub puts : List Step → ℕ
puts [] = 0
puts (see t ∷ steps) = puts steps
puts (put t ∷ steps) = suc (puts steps)

-- what goes into the table are data types
abbrev pub ArePut : List Step → Type 0
ArePut [] = Unit {0}
ArePut (see t ∷ steps) = ArePut steps
ArePut (put t ∷ steps) = (data_in t ≡ t ∷ []) × ArePut steps

-- what is seen before a type: of a data type the types of its fields, of another its parts, which have the same data types as it
abbrev pub IsOpened : World → Bool → Ty → List Ty → Type 0
IsOpened world true t parts = (data_in t ≡ t ∷ []) × (parts ≡ flat_map (λ fields. fields) (fields_of world t))
IsOpened world false t parts = data_in t ≡ flat_map data_in parts

-- the steps that tasks are
abbrev pub number_of : Task → ℕ
number_of (task.See n) = n
number_of (task.Put n) = n

abbrev pub step_of : List Node → Task → Step
step_of types (task.See n) = see (type_at types n)
step_of types (task.Put n) = put (type_at types n)

abbrev pub steps_of : List Node → List Task → List Step
steps_of types tasks = map (step_of types) tasks

-- a search under way: so many types more may be met before the table is too long
pub record IsUnderWay (types : List Node) (numbers : List ℕ) (marks : List Bool) (tasks : List Task) (room : ℕ) : Type 0 where
  pub proper : IsProper types
  pub looked : IsLooked types numbers marks
  pub within : AreBelow (length types) (map number_of tasks)
  pub fit : ArePut (steps_of types tasks)
  pub narrow : room + (length numbers + puts (steps_of types tasks)) ≡ most_types

-- a type whose parts are marked is marked; else they are seen, and it is looked at again
abbrev pub IsPassed : ℕ → List ℕ → List Bool → List Bool → List Task → List Task → Type 0
IsPassed n parts old new before after =
    (AreMarked old parts × (after ≡ before) × ((k : ℕ) → is_marked new k ≡ (nat_eq n k || is_marked old k)))
    ⊎ ((new ≡ old) × (after ≡ map task.See parts ++ (task.See n ∷ before)))
