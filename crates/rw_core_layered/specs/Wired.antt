-- The types of functions, leaves and systems of them.
use Rattle.std.specs.Prelude.{◌≡◌, ℕ, zero, suc, List, [], ◌∷◌, Option, Some, None}
use Rattle.rw_core.specs.declared.types.DataTy.{DataTy}
use Rattle.rw_core.specs.Bits.{constructors_of, IsValue, AreValues}
use Rattle.rw_core.specs.Values.{Val, vals}
use Rattle.rw_core.specs.Systems.{System, leaf, side_by_side, fed_back}
use Rattle.rw_core_layered.specs.Pures.{Calling}
use Rattle.rw_core_layered.specs.Calls.{Function}
use Rattle.rw_core_layered.specs.Machines.{MachineLeaf, leaf_at}

-- the types of a function's parameters and value
pub record Signature : Type 0 where
  pub params : List ℕ
  pub result : ℕ

abbrev pub signature_of : {B : Type 0} → Function B → Signature
signature_of f = record { params = f.params; result = f.result }

abbrev pub signature_at : ℕ → List Signature → Option Signature
signature_at k [] = None
signature_at zero (s ∷ ss) = Some s
signature_at (suc k) (s ∷ ss) = signature_at k ss

-- what calls give of values of the types of a function's parameters is of the type of its value
abbrev pub KeepsTypes : List DataTy → List Signature → Calling → Type 0
KeepsTypes types signatures calls =
    (i : ℕ) (s : Signature) → signature_at i signatures ≡ Some s → (arguments : List Val) → AreValues types s.params (vals arguments) → (v : Val) → calls i arguments ≡ Some v → IsValue types s.result v

-- the types of a leaf's functions
pub record LeafTyped (signatures : List Signature) (l : MachineLeaf) : Type 0 where
  pub reset : signature_at l.reset signatures ≡ Some (record { params = []; result = l.state })
  pub next : signature_at l.next signatures ≡ Some (record { params = l.state ∷ l.input ∷ []; result = l.state })
  pub shown : signature_at l.shown signatures ≡ Some (record { params = l.state ∷ []; result = l.output })

-- a system of leaves with these types of inputs and outputs
pub data WiredTyped (types : List DataTy) (signatures : List Signature) (leaves : List MachineLeaf) : System ℕ ℕ → ℕ → ℕ → Type 0 where
  leaf_wired : {k : ℕ} (l : MachineLeaf) → leaf_at k leaves ≡ Some l → WiredTyped types signatures leaves (leaf k) l.input l.output
  pair_wired : {a b : System ℕ ℕ} {i o : ℕ} (i' i'' o' o'' : ℕ) → constructors_of types i ≡ (i' ∷ i'' ∷ []) ∷ [] → constructors_of types o ≡ (o' ∷ o'' ∷ []) ∷ []
      → WiredTyped types signatures leaves a i' o' → WiredTyped types signatures leaves b i'' o'' → WiredTyped types signatures leaves (side_by_side a b) i o
  fed_back_wired : {f g : ℕ} {a : System ℕ ℕ} {i o : ℕ} (i' o' : ℕ) → signature_at f signatures ≡ Some (record { params = o' ∷ []; result = o }) → signature_at g signatures ≡ Some (record { params = o' ∷ i ∷ []; result = i' })
      → WiredTyped types signatures leaves a i' o' → WiredTyped types signatures leaves (fed_back f g a) i o
