-- Variables laid behind others.
use Rattle.std.proofs.Common.{◌≡◌, ℕ, suc, ◌+◌, List, [], ◌∷◌, ◌++◌, length, Bool, true, false, Option, Some, None, is_some, refl, sym, ap, ◌∙◌, arith, if◌then◌else◌, add-zero, zero-add, add_assoc, length-append, min}
use Rattle.vh_tree.specs.StaticRules.{parameter_vars}
use Rattle.std.proofs.lemmas.Bool.{false≢true}
use Rattle.vh_tree.specs.Bits.{Bytes, same_name}
use Rattle.vh_tree.specs.declared.function.Var.{Var}
use Rattle.vhdl_cycle_flat.specs.Names.{slot_among, total_width}
use Rattle.vhdl_cycle_flat.specs.declared.slot.Slot.{Slot}
use Rattle.vhdl_cycle_resolve.specs.Laid.{or_later, IsLaid, AreSlotsOf}
use Rattle.vhdl_cycle_resolve.specs.Over.{slots_in}
use Rattle.rw_base_tables.specs.Tables.{put}
use Rattle.vhdl_cycle_resolve.specs.declared.layout.Layout.{Layout}
use Rattle.rw_base_tables.proofs.Same.{one_name}

or_later_assoc : (a b c : Option Slot) → or_later (or_later a b) c ≡ or_later a (or_later b c)
or_later_assoc None b c = refl
or_later_assoc (Some s) b c = refl

or_later_none : (a : Option Slot) → or_later a None ≡ a
or_later_none None = refl
or_later_none (Some s) = refl

or_later_if : (t : Bool) (s : Slot) (later : Option Slot) → or_later (if t then Some s else None) later ≡ (if t then Some s else later)
or_later_if true s later = refl
or_later_if false s later = refl

pub laid_none : (l : Layout) → IsLaid l [] l
laid_none l = record { slots = λ x. sym (or_later_none (slots_in l.slots x)); count = sym (add-zero l.count); bits = sym (add-zero l.bits) }

pub laid_more : (a b c : Layout) (v : Var) (vs : List Var) → IsLaid a (v ∷ []) b → IsLaid b vs c → IsLaid a (v ∷ vs) c
laid_more a b c v vs one more = record {
  slots = λ x.
      let t = same_name v.name x in
      let s : Slot = record { number = a.count; from = a.bits; len = v.width } in
      let number : b.count ≡ suc a.count = omega (arith, one.count) in
      let from : b.bits ≡ a.bits + v.width = omega (arith, one.bits) in
      let rest : slot_among b.count b.bits vs x ≡ slot_among (suc a.count) (a.bits + v.width) vs x = ap (λ k. slot_among k b.bits vs x) number ∙ ap (λ k. slot_among (suc a.count) k vs x) from in
      more.slots x ∙ ap (λ o. or_later o (slot_among b.count b.bits vs x)) (one.slots x)
      ∙ or_later_assoc (slots_in a.slots x) (if t then Some s else None) (slot_among b.count b.bits vs x)
      ∙ ap (or_later (slots_in a.slots x)) (or_later_if t s (slot_among b.count b.bits vs x) ∙ ap (λ o. if t then Some s else o) rest);
  count = omega (arith, one.count, more.count);
  bits = omega (arith, one.bits, more.bits);
}

-- all behind nothing
pub laid_first : (vs : List Var) (a b : Layout) → AreSlotsOf [] a → IsLaid a vs b → AreSlotsOf vs b
laid_first vs a b none laid = record {
  slots = λ x. laid.slots x ∙ ap (λ o. or_later o (slot_among a.count a.bits vs x)) (none.slots x)
      ∙ ap (λ k. slot_among k a.bits vs x) none.count ∙ ap (λ k. slot_among 0 k vs x) none.bits;
  count = omega (arith, laid.count, none.count);
  bits = omega (arith, laid.bits, none.bits);
}

or_later_first : (t : Bool) (s : Slot) (r later : Option Slot) → or_later (if t then Some s else r) later ≡ (if t then Some s else or_later r later)
or_later_first true s r later = refl
or_later_first false s r later = refl

slot_among_append : (n from : ℕ) (vs ws : List Var) (x : Bytes) → slot_among n from (vs ++ ws) x ≡ or_later (slot_among n from vs x) (slot_among (n + length vs) (from + total_width vs) ws x)
slot_among_append n from [] ws x = ap (λ k. slot_among k from ws x) (sym (add-zero n)) ∙ ap (λ k. slot_among (n + 0) k ws x) (sym (add-zero from))
slot_among_append n from (v ∷ vs) ws x =
    let t = same_name v.name x in
    let s : Slot = record { number = n; from = from; len = v.width } in
    let number : suc n + length vs ≡ n + length (v ∷ vs) = omega arith in
    let place : from + v.width + total_width vs ≡ from + total_width (v ∷ vs) = omega arith in
    ap (λ o. if t then Some s else o) (slot_among_append (suc n) (from + v.width) vs ws x
    ∙ ap (λ k. or_later (slot_among (suc n) (from + v.width) vs x) (slot_among k (from + v.width + total_width vs) ws x)) number
    ∙ ap (λ k. or_later (slot_among (suc n) (from + v.width) vs x) (slot_among (n + length (v ∷ vs)) k ws x)) place)
    ∙ sym (or_later_first t s (slot_among (suc n) (from + v.width) vs x) (slot_among (n + length (v ∷ vs)) (from + total_width (v ∷ vs)) ws x))

total_width_append : (vs ws : List Var) → total_width (vs ++ ws) ≡ total_width vs + total_width ws
total_width_append [] ws = sym (zero-add (total_width ws))
total_width_append (v ∷ vs) ws = ap (λ k. v.width + k) (total_width_append vs ws) ∙ sym (add_assoc v.width (total_width vs) (total_width ws))

-- all behind all
pub laid_append : (vs ws : List Var) (a b c : Layout) → IsLaid a vs b → IsLaid b ws c → IsLaid a (vs ++ ws) c
laid_append vs ws a b c first later = record {
  slots = λ x.
      later.slots x ∙ ap (λ o. or_later o (slot_among b.count b.bits ws x)) (first.slots x)
      ∙ or_later_assoc (slots_in a.slots x) (slot_among a.count a.bits vs x) (slot_among b.count b.bits ws x)
      ∙ ap (or_later (slots_in a.slots x)) (ap (λ k. or_later (slot_among a.count a.bits vs x) (slot_among k b.bits ws x)) first.count
      ∙ ap (λ k. or_later (slot_among a.count a.bits vs x) (slot_among (a.count + length vs) k ws x)) first.bits ∙ sym (slot_among_append a.count a.bits vs ws x));
  count = omega (arith, first.count, later.count, length-append vs ws);
  bits = omega (arith, first.bits, later.bits, total_width_append vs ws);
}

kept_some : (o later : Option Slot) → is_some o ≡ true → o ≡ or_later o later
kept_some None later has = absurd (false≢true has)
kept_some (Some s) later has = refl

given_none : (o : Option Slot) (s : Slot) → is_some o ≡ false → Some s ≡ or_later o (Some s)
given_none None s has = refl
given_none (Some t) s has = absurd (false≢true (sym has))

-- a name that has a place keeps it
pub kept : (known : Bytes → Option Slot) (name : Bytes) (s : Slot) (x : Bytes) → is_some (known name) ≡ true → known x ≡ or_later (known x) (if same_name name x then Some s else None)
kept known name s x has = elim (same_name name x) as (λ t. same_name name x ≡ t → known x ≡ or_later (known x) (if t then Some s else None)) [
  | true ↦ (λ e. kept_some (known x) (Some s) (ap (λ z. is_some (known z)) (sym (one_name name x e)) ∙ has))
  | false ↦ (λ e. sym (or_later_none (known x)))
] refl

-- and one that has none gets this
pub given : (known : Bytes → Option Slot) (name : Bytes) (s : Slot) (x : Bytes) → is_some (known name) ≡ false → put name s known x ≡ or_later (known x) (if same_name name x then Some s else None)
given known name s x has = elim (same_name name x) as (λ t. same_name name x ≡ t → (if t then Some s else known x) ≡ or_later (known x) (if t then Some s else None)) [
  | true ↦ (λ e. given_none (known x) s (ap (λ z. is_some (known z)) (sym (one_name name x e)) ∙ has))
  | false ↦ (λ e. sym (or_later_none (known x)))
] refl

-- where one list is at its end, there is no further parameter
pub parameter_vars_none : (ps : List Bytes) (vs : List Var) → min (length ps) (length vs) ≡ 0 → parameter_vars ps vs ≡ []
parameter_vars_none [] vs e = refl
parameter_vars_none (p ∷ ps) [] e = refl
parameter_vars_none (p ∷ ps) (v ∷ vs) e = absurd (omega arith)
