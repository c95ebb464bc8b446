-- A value without where it lies in memory.
use Rattle.std.specs.Prelude.{ℕ, List, [], ◌∷◌, map}
use Rattle.rw_core.specs.declared.value.Value.{Value, fold-Value}
use Rattle.rw_core.specs.declared.value.Value.TheOpen.{Value-F}

-- a value is its constructor's place and its fields
mutual
  pub data Val : Type 0 where
    val : ℕ → Vals → Val

  pub data Vals : Type 0 where
    none : Vals
    more : Val → Vals → Vals

-- a list of values, as fields
abbrev pub vals : List Val → Vals
vals [] = none
vals (v ∷ vs) = more v (vals vs)

-- one level, with each field already in its plain form
abbrev pub plain_step : Value-F Val → Val
plain_step v = val v.tag (vals v.fields)

-- the plain form of a value
abbrev pub plain : Value → Val
plain = fold-Value Val plain_step

-- the plain forms of a list of values
abbrev pub plains : List Value → List Val
plains values = map plain values
