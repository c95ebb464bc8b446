-- Which processes run, by the places that they hear and by the names.
use Rattle.std.proofs.Common.{◌≡◌, ℕ, List, [], ◌∷◌, Bool, true, false, not, ◌&&◌, ◌||◌, Option, refl, ap, sym, ◌∙◌, nat_eq}
use Rattle.std.proofs.lemmas.Bool.{eq-eqb, eqb-true}
use Rattle.std.specs.List.{list_any}
use Rattle.vh_tree.specs.Bits.{Bytes, Bits, bit_number, same_bit, same_bits}
use Rattle.vh_tree.specs.DeltaCycle.{seen_at, has_event, runs}
use Rattle.vh_tree.specs.declared.function.Var.{Var}
use Rattle.vh_tree.specs.declared.process.Process.{Process as Named}
use Rattle.vh_tree.specs.declared.wire.Moment.{Moment}
use Rattle.vhdl_cycle_flat.specs.Flat.{part_of}
use Rattle.vhdl_cycle_flat.specs.Delta.{has_event as has_event_at}
use Rattle.vhdl_cycle_flat.specs.Names.{slots_of}
use Rattle.vhdl_cycle_flat.specs.Resolving.{with_place, places_of}
use Rattle.vhdl_cycle_flat.specs.declared.process.Place.{Place}
use Rattle.vhdl_cycle_flat.specs.declared.slot.Slot.{Slot}
use Rattle.vhdl_cycle_laws.proofs.Places.{Placed, nowhere, somewhere, placed, slot_at}
use Rattle.vhdl_cycle_laws.proofs.Reading.{held_at, value_there, value_nowhere}

-- tests that hold of the same are the same
either_way : (a b : Bool) → (a ≡ true → b ≡ true) → (b ≡ true → a ≡ true) → a ≡ b
either_way true b h k = sym (h refl)
either_way false true h k = k refl
either_way false false h k = refl

nat_eq_turned : (a b : ℕ) → nat_eq a b ≡ nat_eq b a
nat_eq_turned a b = either_way (nat_eq a b) (nat_eq b a) (λ e. eq-eqb b a (sym (eqb-true a b e))) (λ e. eq-eqb a b (sym (eqb-true b a e)))

same_bits_turned : (a b : Bits) → same_bits a b ≡ same_bits b a
same_bits_turned [] [] = refl
same_bits_turned [] (y ∷ b) = refl
same_bits_turned (x ∷ a) [] = refl
same_bits_turned (x ∷ a) (y ∷ b) = ap (λ q. q && same_bits a b) (nat_eq_turned (bit_number x) (bit_number y)) ∙ ap (λ q. same_bit y x && q) (same_bits_turned a b)

module _ (vars : List Var) (before now : Bits) where
  -- what is seen in a cycle
  abbrev pub moment_at : Bool → Moment
  moment_at starting = record { starting = starting; before = held_at vars before; current = held_at vars now }

  -- a name with no place has no event, as it has no value
  one_event : (x : Bytes) (o : Option Slot) → Placed x 0 0 vars o → (places : List Place) (rest : Bool) → rest ≡ has_event_at now before places →
      (has_event (moment_at false) x || rest) ≡ has_event_at now before (with_place o places)
  one_event x _ (nowhere n) places rest e =
      ap (λ (bits : Bits). not (same_bits bits (seen_at (held_at vars now) x)) || rest) (value_nowhere (λ _ _. []) x vars before n)
      ∙ ap (λ (bits : Bits). not (same_bits [] bits) || rest) (value_nowhere (λ _ _. []) x vars now n) ∙ e
  one_event x _ (somewhere s k) places rest e =
      ap (λ (bits : Bits). not (same_bits bits (seen_at (held_at vars now) x)) || rest) (value_there (λ _ _. []) x before (slot_at x vars s k))
      ∙ ap (λ (bits : Bits). not (same_bits (part_of s.from s.len before) bits) || rest) (value_there (λ _ _. []) x now (slot_at x vars s k))
      ∙ ap (λ q. not q || rest) (same_bits_turned (part_of s.from s.len before) (part_of s.from s.len now))
      ∙ ap (λ q. not (same_bits (part_of s.from s.len now) (part_of s.from s.len before)) || q) e

  events : (xs : List Bytes) → list_any (has_event (moment_at false)) xs ≡ has_event_at now before (places_of (slots_of vars) xs)
  events [] = refl
  events (x ∷ xs) = one_event x (slots_of vars x) (placed x 0 0 vars) (places_of (slots_of vars) xs) (list_any (has_event (moment_at false)) xs) (events xs)

  pub runs_at : (starting : Bool) (q : Named) → (starting || has_event_at now before (places_of (slots_of vars) q.sensitive)) ≡ runs (moment_at starting) q
  runs_at true q = refl
  runs_at false q = sym (events q.sensitive)
