-- The bits of a tag as a number, and the bits of the fields that are still to come.
use Rattle.std.specs.Prelude.{◌≡◌, ℕ, ◌+◌, ◌*◌, Bool, cond, List, [], ◌∷◌, length, fold}
use Rattle.rw_core.specs.declared.types.DataTy.{DataTy}
use Rattle.rw_core.specs.Values.{Val, Vals, more}
use Rattle.rw_core.specs.Bits.{AreValues, encodings, padded}

-- a number with one more bit on the right
abbrev pub with_bit : ℕ → Bool → ℕ
with_bit n bit = 2 * n + cond bit 1 0

-- the number that bits spell, most significant first
abbrev pub number_of : List Bool → ℕ
number_of bits = fold with_bit 0 bits

-- the bits are those of values of these types, with zeros on the right
abbrev pub Fill : List DataTy → List ℕ → Vals → List Bool → Type 0
Fill types tys vs bits = AreValues types tys vs × (padded (length bits) (encodings types tys vs) ≡ bits)

-- values that stand before others
abbrev pub joined : List Val → Vals → Vals
joined [] vs = vs
joined (w ∷ ws) vs = more w (joined ws vs)
