-- Which values the lines of a trace encode, and which line is the first that encodes none.
use Rattle.std.specs.Prelude.{ℕ, suc, List, [], ◌∷◌, Bool, Result, Ok, Err}
use Rattle.rw_core.specs.declared.types.DataTy.{DataTy}
use Rattle.rw_core.specs.Values.{Val}
use Rattle.rw_core.specs.Bits.{Encodes}
use Rattle.rw_trace.specs.declared.fail.TraceFail.{TraceFail}
use Rattle.rw_trace.specs.declared.fail.TraceFail.TheVariants.{BadLine, OutOfMemory}

-- each line encodes the value of type number ty that stands in its place
abbrev pub AreEncoded : List DataTy → ℕ → List (List Bool) → List Val → Type 0
AreEncoded types ty [] [] = Unit {0}
AreEncoded types ty [] (v ∷ vs) = ⊥
AreEncoded types ty (line ∷ lines) [] = ⊥
AreEncoded types ty (line ∷ lines) (v ∷ vs) = Encodes types ty v line × AreEncoded types ty lines vs

-- the first line that encodes no value of type number ty has this number, counted from 1
pub data FirstWithoutValue (types : List DataTy) (ty : ℕ) : List (List Bool) → ℕ → Type 0 where
  this_line : (line : List Bool) (lines : List (List Bool)) → ((v : Val) → Encodes types ty v line → ⊥) → FirstWithoutValue types ty (line ∷ lines) 1
  later_line : (line : List Bool) (lines : List (List Bool)) (v : Val) (k : ℕ) → Encodes types ty v line → FirstWithoutValue types ty lines k → FirstWithoutValue types ty (line ∷ lines) (suc k)

-- the values of the lines, seen by view, or the number of the first that has none, unless memory ran out
abbrev pub GivesValues : {X : Type 0} → List DataTy → ℕ → List (List Bool) → (X → List Val) → Result X TraceFail → Type 0
GivesValues types ty lines view (Ok values) = AreEncoded types ty lines (view values)
GivesValues types ty lines view (Err (BadLine k)) = FirstWithoutValue types ty lines k
GivesValues types ty lines view (Err OutOfMemory) = Unit {0}
