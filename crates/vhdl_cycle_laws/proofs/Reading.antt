-- What is read of buffers, by places and by names.
use Rattle.std.proofs.Common.{◌≡◌, ℕ, List, [], ◌∷◌, length, take, drop, Bool, true, false, ◌||◌, Option, refl, ap, sym, ◌∙◌, arith, if◌then◌else◌, length-take, length-drop}
use Rattle.std.proofs.lemmas.List.{drop-drop}
use mathlib.Core.Bool.{true≢false}
use Rattle.vh_tree.specs.Bits.{Bytes, Bits, same_name, is_among}
use Rattle.vh_tree.specs.Functions.{Calls, Store, held, value_in}
use Rattle.vh_tree.specs.DeltaCycle.{seen}
use Rattle.vh_tree.specs.StaticRules.{names_of}
use Rattle.vh_tree.specs.Widths.{StoreHasWidths}
use Rattle.vh_tree.specs.declared.function.Var.{Var}
use Rattle.vhdl_cycle_flat.specs.Flat.{Frame, part_of}
use Rattle.vhdl_cycle_flat.specs.Names.{total_width, called_over, value_over}
use Rattle.vhdl_cycle_flat.specs.Standing.{wires_at}
use Rattle.vhdl_cycle_flat.specs.declared.slot.Slot.{Slot}
use Rattle.vh_tree_laws.proofs.Comparisons.{name_turned}
use Rattle.vhdl_cycle_laws.proofs.Places.{IsAt, here, later, Placed, nowhere, somewhere, slot_at}

-- the values of names whose bits stand one after another
abbrev pub held_at : List Var → Bits → Store
held_at [] now = []
held_at (v ∷ vs) now = held v.name (take v.width now) ∷ held_at vs (drop v.width now)

-- what is seen of ports and signals are their current values
pub seen-wires_at : (vars : List Var) (now next : Bits) (pending : List Bool) → length pending ≡ length vars → seen (wires_at vars now next pending) ≡ held_at vars now
seen-wires_at [] now next pending e = refl
seen-wires_at (v ∷ vs) now next [] e = absurd (omega arith)
seen-wires_at (v ∷ vs) now next (true ∷ ps) e = ap (λ (hs : Store). held v.name (take v.width now) ∷ hs) (seen-wires_at vs (drop v.width now) (drop v.width next) ps (omega arith))
seen-wires_at (v ∷ vs) now next (false ∷ ps) e = ap (λ (hs : Store). held v.name (take v.width now) ∷ hs) (seen-wires_at vs (drop v.width now) (drop v.width next) ps (omega arith))

pub held_widths : (vars : List Var) (now : Bits) → length now ≡ total_width vars → StoreHasWidths vars (held_at vars now)
held_widths [] now e = tt
held_widths (v ∷ vs) now e = (refl, omega (arith, length-take v.width now), held_widths vs (drop v.width now) (omega (arith, length-drop v.width now)))

-- the value of a name with a place, and of one without
pub value_there : (calls : Calls) (x : Bytes) (now : Bits) {vars : List Var} {i o w : ℕ} → IsAt x vars i o w → value_in (held_at vars now) calls x ≡ part_of o w now
value_there calls x now (here {v = v} {vs = vs} e) = ap (λ b. if b then take v.width now else value_in (held_at vs (drop v.width now)) calls x) e
value_there calls x now (later {v = v} {vs = vs} {o = o} {w = w} e k) =
    ap (λ b. if b then take v.width now else value_in (held_at vs (drop v.width now)) calls x) e ∙ value_there calls x (drop v.width now) k ∙ ap (take w) (drop-drop o v.width now)

neither_left : (a b : Bool) → (a || b) ≡ false → a ≡ false
neither_left true b h = absurd (true≢false h)
neither_left false b h = refl

neither_right : (a b : Bool) → (a || b) ≡ false → b ≡ false
neither_right true b h = absurd (true≢false h)
neither_right false b h = h

passed_over : (b c : Bool) (first rest : Bits) → (c ≡ true → b ≡ true) → b ≡ false → (if c then first else rest) ≡ rest
passed_over b true first rest h n = absurd (true≢false (sym (h refl) ∙ n))
passed_over b false first rest h n = refl

pub value_nowhere : (calls : Calls) (x : Bytes) (vars : List Var) (now : Bits) → is_among x (names_of vars) ≡ false → value_in (held_at vars now) calls x ≡ calls x []
value_nowhere calls x [] now n = refl
value_nowhere calls x (v ∷ vs) now n =
    passed_over (same_name x v.name) (same_name v.name x) (take v.width now) (value_in (held_at vs (drop v.width now)) calls x) (name_turned v.name x)
    (neither_left (same_name x v.name) (is_among x (names_of vs)) n)
    ∙ value_nowhere calls x vs (drop v.width now) (neither_right (same_name x v.name) (is_among x (names_of vs)) n)

-- so both read the same, where a name that is none of these is one function's on both sides
pub value_same : (calls : Calls) (g : Option Frame) (n : ℕ) (x : Bytes) (vars : List Var) (now : Bits) (o : Option Slot) → Placed x 0 0 vars o →
    (is_among x (names_of vars) ≡ false → called_over g n [] ≡ calls x []) → value_over o g n now ≡ value_in (held_at vars now) calls x
value_same calls g n x vars now _ (nowhere a) h = h a ∙ sym (value_nowhere calls x vars now a)
value_same calls g n x vars now _ (somewhere s k) h = sym (value_there calls x now (slot_at x vars s k))
