-- Bits that stand one after another in a frame, for the names of a store: what is read and what is assigned.
use Rattle.std.proofs.Common.{◌≡◌, ℕ, suc, ◌+◌, ◌-◌, List, [], ◌∷◌, ◌++◌, length, take, drop, Bool, true, false, refl, ap, sym, ◌∙◌, Option, Some, None, arith, length-append, append_assoc, eq-eqb, if◌then◌else◌}
use Rattle.std.proofs.lemmas.List.{take_at, drop_at, take_all}
use Rattle.std.specs.List.{flat_map}
use Rattle.vh_tree.specs.Bits.{Bytes, Bits, same_name}
use Rattle.vh_tree.specs.Functions.{Calls, Store, held, stored, value_in}
use Rattle.vh_tree.specs.StaticRules.{Width, agree, width_among}
use Rattle.vh_tree.specs.Widths.{HasWidth, StoreHasWidths}
use Rattle.vh_tree.specs.declared.function.Var.{Var}
use Rattle.vh_tree.specs.declared.wire.Held.{Held}
use Rattle.vh_tree_laws.proofs.Stores.{stored_width}
use Rattle.vhdl_cycle_flat.specs.Flat.{Frame, part_of, written}
use Rattle.vhdl_cycle_flat.specs.Names.{slot_among, slots_of, value_over, called_over, written_at}
use Rattle.vhdl_cycle_flat.specs.declared.slot.Slot.{Slot}

-- the values of a store, one after another
abbrev pub values_of : Store → Bits
values_of store = flat_map (λ h. h.value) store

-- a frame stands for a store of these names
pub record Stands (vs : List Var) (frame : Bits) (store : Store) : Type 0 where
  pub widths : StoreHasWidths vs store
  pub bits : frame ≡ values_of store

there : (front value rest frame : Bits) (from len : ℕ) → length front ≡ from → length value ≡ len → frame ≡ front ++ (value ++ rest) → part_of from len frame ≡ value
there front value rest frame from len e l is =
    ap (λ (bits : Bits). take len (drop from bits)) is ∙ ap (take len) (drop_at front (value ++ rest) from e) ∙ take_at value rest len l

put_there : (front old rest value frame : Bits) (from : ℕ) → length front ≡ from → length value ≡ length old → frame ≡ front ++ (old ++ rest) → written from value frame ≡ front ++ (value ++ rest)
put_there front old rest value frame from e l is =
    let first : take from frame ≡ front = ap (take from) is ∙ take_at front (old ++ rest) from e in
    let middle : take (length frame - from) value ≡ value = take_all (length frame - from) value (omega (arith, ap length is, length-append front (old ++ rest), length-append old rest)) in
    let last : drop (from + length value) frame ≡ rest =
    ap (drop (from + length value)) (is ∙ sym (append_assoc front old rest)) ∙ drop_at (front ++ old) rest (from + length value) (omega (arith, length-append front old)) in
    rw (first, middle, last) (append_assoc front value rest)

module _ (calls : Calls) (g : Option Frame) (n : ℕ) (x : Bytes) where
  read_step : (b c : Bool) → c ≡ b → (s : Slot) (other : Option Slot) (frame u r : Bits) → part_of s.from s.len frame ≡ u → (b ≡ false → value_over other g n frame ≡ r) →
      value_over (if b then Some s else other) g n frame ≡ (if c then u else r)
  read_step true true e s other frame u r h k = h
  read_step false false e s other frame u r h k = k refl
  read_step true false e s other frame u r h k = absurd (cc)
  read_step false true e s other frame u r h k = absurd (cc)

  read_from : (vs : List Var) (store : Store) → StoreHasWidths vs store → (number from : ℕ) (front frame : Bits) → length front ≡ from → frame ≡ front ++ values_of store →
      (width_among vs x ≡ None → called_over g n [] ≡ calls x []) → value_over (slot_among number from vs x) g n frame ≡ value_in store calls x
  read_from [] [] h number from front frame e is bare = bare refl
  read_from [] (a ∷ hs) h number from front frame e is bare = absurd h
  read_from (v ∷ vs) [] h number from front frame e is bare = absurd h
  read_from (v ∷ vs) (a ∷ hs) h number from front frame e is bare =
      read_step (same_name v.name x) (same_name a.name x) (ap (λ y. same_name y x) h.0) (record { number = number; from = from; len = v.width }) (slot_among (suc number) (from + v.width) vs x)
      frame a.value (value_in hs calls x) (there front a.value (values_of hs) frame from v.width e h.1 is)
      (λ ne. read_from vs hs h.2 (suc number) (from + v.width) (front ++ a.value) frame (omega (arith, length-append front a.value, e, h.1)) (is ∙ sym (append_assoc front a.value (values_of hs)))
      (λ none. bare (ap (λ b. if b then Some v.width else width_among vs x) ne ∙ none)))

  -- the value of a name; one that has no place is a function's
  pub read : (vs : List Var) (store : Store) (frame : Bits) → Stands vs frame store → (width_among vs x ≡ None → called_over g n [] ≡ calls x []) →
      value_over (slots_of vs x) g n frame ≡ value_in store calls x
  read vs store frame h bare = read_from vs store h.widths 0 0 [] frame refl h.bits bare

module _ (x : Bytes) (value : Bits) where
  write_step : (v : Var) (vs : List Var) (a : Held) (hs : Store) (number from : ℕ) (front frame : Bits) (b c : Bool) → c ≡ b → length front ≡ from → length a.value ≡ v.width →
      frame ≡ front ++ values_of (a ∷ hs) → HasWidth (if b then Some v.width else width_among vs x) value →
      (HasWidth (width_among vs x) value → written_at (slot_among (suc number) (from + v.width) vs x) value frame ≡ front ++ (a.value ++ values_of (stored x value hs))) →
      written_at (if b then Some (record { number = number; from = from; len = v.width }) else slot_among (suc number) (from + v.width) vs x) value frame
      ≡ front ++ values_of (if c then held a.name value ∷ hs else a ∷ stored x value hs)
  write_step v vs a hs number from front frame true true k e l is h rest = put_there front a.value (values_of hs) value frame from e (h ∙ sym l) is
  write_step v vs a hs number from front frame false false k e l is h rest = rest h
  write_step v vs a hs number from front frame true false k e l is h rest = absurd (cc)
  write_step v vs a hs number from front frame false true k e l is h rest = absurd (cc)

  write_from : (vs : List Var) (store : Store) → StoreHasWidths vs store → (number from : ℕ) (front frame : Bits) → length front ≡ from → frame ≡ front ++ values_of store →
      HasWidth (width_among vs x) value → written_at (slot_among number from vs x) value frame ≡ front ++ values_of (stored x value store)
  write_from [] [] h number from front frame e is k = absurd k
  write_from [] (a ∷ hs) h number from front frame e is k = absurd h
  write_from (v ∷ vs) [] h number from front frame e is k = absurd h
  write_from (v ∷ vs) (a ∷ hs) h number from front frame e is k =
      write_step v vs a hs number from front frame (same_name v.name x) (same_name a.name x) (ap (λ y. same_name y x) h.0) e h.1 is k
      (λ k'. write_from vs hs h.2 (suc number) (from + v.width) (front ++ a.value) frame (omega (arith, length-append front a.value, e, h.1)) (is ∙ sym (append_assoc front a.value (values_of hs))) k'
      ∙ append_assoc front a.value (values_of (stored x value hs)))

  agrees_self : (w : Width) → agree w w ≡ true
  agrees_self None = refl
  agrees_self (Some n) = eq-eqb n n refl

  -- an assignment of a value of the name's width
  pub write : (vs : List Var) (store : Store) (frame : Bits) → Stands vs frame store → HasWidth (width_among vs x) value → Stands vs (written_at (slots_of vs x) value frame) (stored x value store)
  write vs store frame h k = record {
    widths = stored_width vs store h.widths x (width_among vs x) value (agrees_self (width_among vs x)) k;
    bits = write_from vs store h.widths 0 0 [] frame refl h.bits k;
  }
