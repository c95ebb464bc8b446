-- A stack of values whose fields are being read.
use Rattle.std.specs.Prelude.{◌≡◌, ℕ, ◌<◌, ◌≤◌, List, [], ◌∷◌, length, sum_by, All}
use Rattle.rw_core.specs.declared.types.DataTy.{DataTy}
use Rattle.rw_core.specs.Values.{Val, Vals, val, more, plains}
use Rattle.rw_core.specs.Bits.{width_of}
use Rattle.bit_layout.specs.declared.decoding.Reading.{Reading}
use Rattle.bit_layout.specs.Parts.{Fill, joined}
use Rattle.bit_layout.specs.Widths.{cost_open}

-- the value is the one that is being read, with fields that the rest of its bits hold
abbrev pub ReadsTo : List DataTy → Reading → Val → Type 0
ReadsTo types reading v = (vs : Vals) × Fill types reading.fields.now vs reading.rest.now × (v ≡ val reading.tag (joined (plains reading.built) vs))

-- the same where one more field, which is not in the rest, comes first
abbrev pub Takes : List DataTy → Reading → Val → Val → Type 0
Takes types reading field v = (vs : Vals) × Fill types reading.fields.now vs reading.rest.now × (v ≡ val reading.tag (joined (plains reading.built) (more field vs)))

-- the stack, whose last value takes the field first, ends as the value
abbrev pub Ends : List DataTy → List Reading → Val → Val → Type 0
Ends types [] field v = field ≡ v
Ends types (outer ∷ stack) field v = (inner : Val) × Ends types stack field inner × Takes types outer inner v

-- what is being read, and the stack that it is inside, end as the value
abbrev pub Finishes : List DataTy → Reading → List Reading → Val → Type 0
Finishes types top stack v = (field : Val) × ReadsTo types top field × Ends types stack field v

-- the fields to come fit the bits that are left, which are at most so many
pub record IsRoomy (types : List DataTy) (most : ℕ) (reading : Reading) : Type 0 where
  pub room : sum_by (width_of types) reading.fields.now ≤ length reading.rest.now
  pub narrow : length reading.rest.now ≤ most

-- the fields to come are of known types, and fit
pub record IsReading (types : List DataTy) (count most : ℕ) (reading : Reading) : Type 0 where
  pub known : All (λ field. field < count) reading.fields.now
  pub roomy : IsRoomy types most reading

-- how many steps a stack takes at most
abbrev pub reading_cost : List DataTy → List Reading → ℕ
reading_cost types stack = sum_by (λ reading. cost_open types reading.fields.now) stack
