-- Values and lists of values as the bits on wires; and what a relation of values says of bits.
use Rattle.std.specs.Prelude.{◌≡◌, ℕ, List, map, Bool, true, false}
use Rattle.std.specs.List.{AllByRecursion}
use Rattle.rw_base.specs.declared.bit.Bit9.{Bit9}
use Rattle.rw_base.specs.declared.bit.Bit9.TheVariants.{Zero, One}
use Rattle.rw_core.specs.declared.types.DataTy.{DataTy}
use Rattle.rw_core.specs.Values.{Val}
use Rattle.rw_core.specs.Bits.{IsValue, encoding}
use Rattle.rw_pass.specs.Passes.{Meaning}

-- a bit on a wire
abbrev pub wire : Bool → Bit9
wire false = Zero
wire true = One

-- the wires of a value of type number ty, the most significant bit first
abbrev pub wires_of : List DataTy → ℕ → Val → List Bit9
wires_of types ty v = map wire (encoding types ty v)

abbrev pub wires_of_all : List DataTy → ℕ → List Val → List (List Bit9)
wires_of_all types ty vs = map (wires_of types ty) vs

-- where a representation relates values of type number i to values of type number o, the wires of these are related
abbrev pub on_wires : List DataTy → ℕ → ℕ → (List Val → List Val → Type 0) → Meaning
on_wires types i o Relates inputs outputs =
    (vs : List Val) × (ws : List Val) × AllByRecursion (IsValue types i) vs × AllByRecursion (IsValue types o) ws × Relates vs ws
    × (wires_of_all types i vs ≡ inputs) × (wires_of_all types o ws ≡ outputs)
