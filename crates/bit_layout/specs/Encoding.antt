-- A stack of values whose fields are being written.
use Rattle.std.specs.Prelude.{◌≡◌, ℕ, ◌<◌, ◌≤◌, Bool, List, [], ◌∷◌, ◌++◌, sum_by, All}
use Rattle.rw_core.specs.declared.types.DataTy.{DataTy}
use Rattle.rw_core.specs.declared.value.Value.{Value}
use Rattle.rw_core.specs.Values.{plains, vals}
use Rattle.rw_core.specs.Bits.{AreValues, width_of, padded, encodings}
use Rattle.bit_layout.specs.declared.encoding.Writing.{Writing}
use Rattle.bit_layout.specs.Widths.{cost_open}

-- the bits so far, with the fields that are to come and zeros up to the end
abbrev pub closed : List DataTy → Writing → List Bool → List Bool
closed types writing bits = padded writing.end (bits ++ encodings types writing.fields.now (vals (plains writing.values.now)))

-- the same for a stack, whose last value is written first
abbrev pub all_closed : List DataTy → List Writing → List Bool → List Bool
all_closed types [] bits = bits
all_closed types (outer ∷ stack) bits = closed types outer (all_closed types stack bits)

-- the fields to come are values of known types, and fit 1,024 bits
pub record IsWriting (types : List DataTy) (count : ℕ) (writing : Writing) : Type 0 where
  pub known : All (λ field. field < count) writing.fields.now
  pub typed : AreValues types writing.fields.now (vals (plains writing.values.now))
  pub narrow : sum_by (width_of types) writing.fields.now ≤ 1024

-- how many steps a stack takes at most
abbrev pub cost_all : List DataTy → List Writing → ℕ
cost_all types stack = sum_by (λ writing. cost_open types writing.fields.now) stack

-- what comes first among the fields to come, and what comes after it
pub record IsNext (top : Writing) (field : ℕ) (value : Value) (others : Writing) : Type 0 where
  pub fields : top.fields.now ≡ field ∷ others.fields.now
  pub values : top.values.now ≡ value ∷ others.values.now
  pub end : others.end ≡ top.end
