-- What it is for values to have their static widths.
use Rattle.std.specs.Prelude.{◌≡◌, ℕ, List, [], ◌∷◌, map, length, Bool, true, Option, Some, None}
use Rattle.vh_tree.specs.Bits.{Bytes, Bits}
use Rattle.vh_tree.specs.Functions.{Scope, Store}
use Rattle.vh_tree.specs.StaticRules.{Names, Width, Widths, Shape, has_arity, width_of_name}
use Rattle.vh_tree.specs.declared.function.Var.{Var}

-- a value has this width, which is known
abbrev pub HasWidth : Width → Bits → Type 0
HasWidth None value = ⊥
HasWidth (Some n) value = length value ≡ n

-- a known function of k parameters gives a value of its width, of arguments of its parameters' widths
abbrev pub GivesWidth : Option Shape → ℕ → (List Bits → Bits) → Type 0
GivesWidth None k call = ⊥
GivesWidth (Some shape) k call = (length shape.params ≡ k) × ((args : List Bits) → map length args ≡ shape.params → HasWidth shape.result (call args))

-- a scope keeps to widths: what may be named has its width, and the functions that may be used give theirs
pub record KeepsWidths (names : Names) (usable : Bytes → Bool) (ws : Widths) (s : Scope) : Type 0 where
  pub reads : (x : Bytes) → names.reads x ≡ true → HasWidth (ws.named x) (s.value x)
  pub bare : (x : Bytes) → has_arity (names.arity x) 0 ≡ true → usable x ≡ true → HasWidth (width_of_name (ws.named x) (ws.known x)) (s.value x)
  pub calls : (f : Bytes) (k : ℕ) → has_arity (names.arity f) k ≡ true → usable f ≡ true → GivesWidth (ws.known f) k (s.call f)

-- a store has these names, in order, with values of these widths
abbrev pub StoreHasWidths : List Var → Store → Type 0
StoreHasWidths [] [] = Unit {0}
StoreHasWidths (v ∷ vs) (h ∷ hs) = (h.name ≡ v.name) × (length h.value ≡ v.width) × StoreHasWidths vs hs
StoreHasWidths [] (h ∷ hs) = ⊥
StoreHasWidths (v ∷ vs) [] = ⊥
