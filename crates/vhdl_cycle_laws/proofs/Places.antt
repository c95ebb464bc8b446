-- The place of a name among names that stand one after another: its number, where its bits begin, and how many they are.
use Rattle.std.proofs.Common.{◌≡◌, ℕ, suc, ◌+◌, ◌≤◌, List, [], ◌∷◌, Bool, true, false, ◌||◌, Option, Some, None, refl, ap, sym, ◌∙◌, subst, arith, if◌then◌else◌}
use mathlib.Core.Bool.{true≢false}
use Rattle.vh_tree.specs.Bits.{Bytes, same_name, is_among}
use Rattle.vh_tree.specs.StaticRules.{names_of, width_among}
use Rattle.vh_tree.specs.declared.function.Var.{Var}
use Rattle.vhdl_cycle_flat.specs.Names.{slot_among, slots_of, total_width}
use Rattle.vhdl_cycle_flat.specs.declared.slot.Slot.{Slot}
use Rattle.vh_tree_laws.proofs.Comparisons.{name_turned}

-- the first of this name has this number and this many bits, which begin there
pub data IsAt (x : Bytes) : List Var → ℕ → ℕ → ℕ → Type 0 where
  here : {v : Var} {vs : List Var} → same_name v.name x ≡ true → IsAt x (v ∷ vs) 0 0 v.width
  later : {v : Var} {vs : List Var} {i o w : ℕ} → same_name v.name x ≡ false → IsAt x vs i o w → IsAt x (v ∷ vs) (suc i) (v.width + o) w

-- a slot, counted from where the names begin
pub record IsSlot (x : Bytes) (number from : ℕ) (vars : List Var) (s : Slot) : Type 0 where
  pub index : ℕ
  pub offset : ℕ
  pub is_number : s.number ≡ number + index
  pub is_from : s.from ≡ from + offset
  pub is_at : IsAt x vars index offset s.len

-- either the name has a place, which its slot tells, or none is of this name
pub data Placed (x : Bytes) (number from : ℕ) (vars : List Var) : Option Slot → Type 0 where
  nowhere : is_among x (names_of vars) ≡ false → Placed x number from vars None
  somewhere : (s : Slot) → IsSlot x number from vars s → Placed x number from vars (Some s)

neither : (a b : Bool) → a ≡ false → b ≡ false → (a || b) ≡ false
neither true b e n = absurd (true≢false e)
neither false b e n = n

name_differs : (x y : Bytes) → same_name x y ≡ false → same_name y x ≡ false
name_differs x y e = differs (same_name y x) refl
  where
    differs : (b : Bool) → same_name y x ≡ b → b ≡ false
    differs true h = absurd (true≢false (sym (name_turned y x h) ∙ e))
    differs false h = refl

placed_step : (x : Bytes) (number from : ℕ) (v : Var) (vs : List Var) (b : Bool) → same_name v.name x ≡ b → (o : Option Slot) → Placed x (suc number) (from + v.width) vs o →
    Placed x number from (v ∷ vs) (if b then Some (record { number = number; from = from; len = v.width }) else o)
placed_step x number from v vs true e o p = somewhere _ (record { index = 0; offset = 0; is_number = omega arith; is_from = omega arith; is_at = here e })
placed_step x number from v vs false e _ (nowhere n) = nowhere (neither (same_name x v.name) (is_among x (names_of vs)) (name_differs v.name x e) n)
placed_step x number from v vs false e _ (somewhere s k) =
    somewhere s (record { index = suc k.index; offset = v.width + k.offset; is_number = omega (arith, k.is_number); is_from = omega (arith, k.is_from); is_at = later e k.is_at })

pub placed : (x : Bytes) (number from : ℕ) (vars : List Var) → Placed x number from vars (slot_among number from vars x)
placed x number from [] = nowhere refl
placed x number from (v ∷ vs) = placed_step x number from v vs (same_name v.name x) refl (slot_among (suc number) (from + v.width) vs x) (placed x (suc number) (from + v.width) vs)

-- counted from the first of all
pub slot_at : (x : Bytes) (vars : List Var) (s : Slot) → IsSlot x 0 0 vars s → IsAt x vars s.number s.from s.len
slot_at x vars s k =
    subst (λ (i : ℕ). IsAt x vars i s.from s.len) (omega (arith, k.is_number)) (subst (λ (o : ℕ). IsAt x vars k.index o s.len) (omega (arith, k.is_from)) k.is_at)

slot_case : (x : Bytes) (vars : List Var) (s : Slot) (o : Option Slot) → Placed x 0 0 vars o → o ≡ Some s → IsAt x vars s.number s.from s.len
slot_case x vars s _ (nowhere n) e = cc
slot_case x vars s _ (somewhere r k) e =
    let same : r ≡ s = cc in
    subst (λ (t : Slot). IsAt x vars t.number t.from t.len) same (slot_at x vars r k)

pub slot_is : (x : Bytes) (vars : List Var) (s : Slot) → slots_of vars x ≡ Some s → IsAt x vars s.number s.from s.len
slot_is x vars s e = slot_case x vars s (slots_of vars x) (placed x 0 0 vars) e

-- a name of these has a place
pub has_place : (x : Bytes) (vars : List Var) (o : Option Slot) → Placed x 0 0 vars o → is_among x (names_of vars) ≡ true → (s : Slot) × IsAt x vars s.number s.from s.len
has_place x vars _ (nowhere n) a = absurd (true≢false (sym a ∙ n))
has_place x vars _ (somewhere s k) a = (s, slot_at x vars s k)

pub width_there : (x : Bytes) {vars : List Var} {i o w : ℕ} → IsAt x vars i o w → width_among vars x ≡ Some w
width_there x (here {v = v} {vs = vs} e) = ap (λ b. if b then Some v.width else width_among vs x) e
width_there x (later {v = v} {vs = vs} e k) = ap (λ b. if b then Some v.width else width_among vs x) e ∙ width_there x k

pub room_there : (x : Bytes) {vars : List Var} {i o w : ℕ} → IsAt x vars i o w → o + w ≤ total_width vars
room_there x (here {v = v} {vs = vs} e) = omega arith
room_there x (later {v = v} {vs = vs} e k) = omega (arith, room_there x k)
