-- When one type of a table is well formed.
use Rattle.std.specs.Prelude.{ℕ, ◌<◌, ◌^◌, List, [], length, slice_index_or, All}

-- from 1 to 2^32 - 1 constructors, whose fields are of types before this number
abbrev pub IsDataType : ℕ → List (List ℕ) → Type 0
IsDataType number constructors =
    (0 < length constructors) × (length constructors < 2 ^ 32) × ((tag : ℕ) → All (λ field. field < number) (slice_index_or constructors tag []))
