-- Lists of widths that stand at a limit, and what the fields of a type take.
use Rattle.std.specs.Prelude.{◌≡◌, ℕ, ◌+◌, ◌*◌, ◌<◌, ◌≤◌, min, List, length, slice_index, sum_by, All}
use Rattle.rw_core.specs.declared.types.DataTy.{DataTy}
use Rattle.rw_core.specs.Bits.{constructors_of, tag_width, width_of}

-- the widths of the first so many types, each at most the limit
pub record AreWidths (cap : ℕ) (types : List DataTy) (count : ℕ) (widths : List ℕ) : Type 0 where
  pub all : length widths ≡ count
  pub each : (ty : ℕ) → ty < count → slice_index widths ty ≡ min cap (width_of types ty)

-- these are earlier types than number ty, and with a tag they fit its width
pub record AreShort (types : List DataTy) (ty : ℕ) (fields : List ℕ) : Type 0 where
  pub earlier : All (λ field. field < ty) fields
  pub fit : tag_width (length (constructors_of types ty)) + sum_by (width_of types) fields ≤ width_of types ty

-- how many steps a walk takes for a value of type number ty at most: a field is earlier, or narrower
abbrev pub cost : List DataTy → ℕ → ℕ
cost types ty = width_of types ty * (2 * ty + 2)

-- and for a value whose fields are still to come
abbrev pub cost_open : List DataTy → List ℕ → ℕ
cost_open types fields = 1 + sum_by (cost types) fields
