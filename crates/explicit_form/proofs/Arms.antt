-- One alternative more among those of a function.
use Rattle.std.proofs.Common.{◌≡◌, ℕ, ◌+◌, ◌<◌, Bool, true, false, not, ◌&&◌, List, [], ◌∷◌, ◌++◌, length, drop, take, get_or, set, map, Option, Some, None, is_some, refl, sym, ap, ◌∙◌, add-one, nat_eq, ◌⊎◌, inl, inr}
use Rattle.std.specs.Prelude.{bytes_eq}
use Rattle.std.specs.List.{list_any, list_all}
use Rattle.std.proofs.lemmas.List.{map-append}
use Rattle.std.proofs.Math.Seq.{take-suc, take-append_seam}
use Rattle.explicit_form.specs.declared.form.Arm.{Arm}
use Rattle.explicit_form.specs.Fit.{is_among, are_new, fits_arm, entry_of, entries_from, place_of}
use Rattle.explicit_form.proofs.News.{both, no_left, no_right, cut, new_stop, new_step}
use Rattle.explicit_form.proofs.Slots.{place_within, slots_step, slot_seen}

pub either_bool : (b : Bool) → (b ≡ true) ⊎ (b ≡ false)
either_bool true = inl refl
either_bool false = inr refl

-- a list written back to where it was lent
pub written_back : {A : Type 0} (new old : List A) (n : ℕ) → length new ≡ n → take n (new ++ drop (length new) old) ≡ new
written_back new old n e = ap (λ k. take k (new ++ drop (length new) old)) (sym e) ∙ take-append_seam new (drop (length new) old)

taken_more : {A B : Type 0} (f : A → B) (all : List A) (k : ℕ) (x : A) → k < length all → x ≡ get_or all k x → map f (take (k + 1) all) ≡ map f (take k all) ++ f x ∷ []
taken_more f all k x h e =
    ap (λ n. map f (take n all)) (add-one k) ∙ ap (map f) (take-suc all k x h) ∙ map-append f (take k all) (get_or all k x ∷ []) ∙ ap (λ y. map f (take k all) ++ f y ∷ []) (sym e)

module _ (inputs names : List (List ℕ)) where
  abbrev pub entries : List Arm → List (ℕ × ℕ)
  entries = map (entry_of inputs names)

  abbrev pub firsts : List Arm → List ℕ
  firsts arms = map (λ (e : ℕ × ℕ). e.0) (entries arms)

  abbrev pub is_free_in : List (Option ℕ) → Arm → Bool
  is_free_in slots x = fits_arm inputs names x && not (is_some (get_or slots (entry_of inputs names x).0 None))

  input_within : (x : Arm) → fits_arm inputs names x ≡ true → place_of inputs x.constructor < length inputs
  input_within x h = place_within (bytes_eq x.constructor) inputs (both (is_among x.constructor inputs) (is_among x.target names) h).0

  is_new_there : (arms : List Arm) (k : ℕ) (x : Arm) (slots : List (Option ℕ)) → slots ≡ entries_from 0 (length inputs) (entries (take k arms)) → fits_arm inputs names x ≡ true
      → not (list_any (nat_eq (place_of inputs x.constructor)) (firsts (take k arms))) ≡ not (is_some (get_or slots (place_of inputs x.constructor) None))
  is_new_there arms k x slots e h = slot_seen (length inputs) (place_of inputs x.constructor) (entries (take k arms)) slots e (input_within x h)

  -- what is left is out of order where this one is
  pub arms_stop : (arms : List Arm) (k : ℕ) (x : Arm) (slots : List (Option ℕ)) → slots ≡ entries_from 0 (length inputs) (entries (take k arms)) → k < length arms → x ≡ get_or arms k x
      → is_free_in slots x ≡ false → (list_all (fits_arm inputs names) (drop k arms) && are_new nat_eq (firsts (take k arms)) (firsts (drop k arms))) ≡ false
  arms_stop arms k x slots e h at bad =
      elim (either_bool (fits_arm inputs names x)) [
        | inl fitting ↦
            let taken : not (is_some (get_or slots (place_of inputs x.constructor) None)) ≡ false =
            ap (λ b. b && not (is_some (get_or slots (place_of inputs x.constructor) None))) (sym fitting) ∙ bad in
            no_right _ _ (new_stop nat_eq (firsts (take k arms)) (firsts (drop k arms)) (firsts (drop (k + 1) arms)) (place_of inputs x.constructor) (ap firsts (cut arms k x h at))
            (is_new_there arms k x slots e fitting ∙ taken))
        | inr unfit ↦ no_left _ _ (ap (list_all (fits_arm inputs names)) (cut arms k x h at) ∙ no_left _ (list_all (fits_arm inputs names) (drop (k + 1) arms)) unfit)
      ]

  pub fits_step : (arms : List Arm) (k : ℕ) (x : Arm) (slots : List (Option ℕ)) → k < length arms → x ≡ get_or arms k x
      → is_free_in slots x ≡ true → list_all (fits_arm inputs names) (drop k arms) ≡ list_all (fits_arm inputs names) (drop (k + 1) arms)
  fits_step arms k x slots h at good =
      ap (list_all (fits_arm inputs names)) (cut arms k x h at) ∙ ap (λ b. b && list_all (fits_arm inputs names) (drop (k + 1) arms)) (both _ _ good).0

  pub fresh_step : (arms : List Arm) (k : ℕ) (x : Arm) (slots : List (Option ℕ)) → slots ≡ entries_from 0 (length inputs) (entries (take k arms)) → k < length arms → x ≡ get_or arms k x
      → is_free_in slots x ≡ true → are_new nat_eq (firsts (take k arms)) (firsts (drop k arms)) ≡ are_new nat_eq (firsts (take (k + 1) arms)) (firsts (drop (k + 1) arms))
  fresh_step arms k x slots e h at good =
      let parts = both (fits_arm inputs names x) (not (is_some (get_or slots (place_of inputs x.constructor) None))) good in
      new_step nat_eq [] (firsts (take k arms)) (firsts (drop k arms)) (firsts (drop (k + 1) arms)) (place_of inputs x.constructor) (ap firsts (cut arms k x h at))
      (is_new_there arms k x slots e parts.0 ∙ parts.1)
      ∙ ap (λ s. are_new nat_eq s (firsts (drop (k + 1) arms)))
      (sym (ap (map (λ (e : ℕ × ℕ). e.0)) (taken_more (entry_of inputs names) arms k x h at) ∙ map-append (λ (e : ℕ × ℕ). e.0) (entries (take k arms)) (entry_of inputs names x ∷ [])))

  pub filled_step : (arms : List Arm) (k : ℕ) (x : Arm) (slots : List (Option ℕ)) → slots ≡ entries_from 0 (length inputs) (entries (take k arms)) → k < length arms → x ≡ get_or arms k x
      → is_free_in slots x ≡ true → set slots (entry_of inputs names x).0 (Some (entry_of inputs names x).1) ≡ entries_from 0 (length inputs) (entries (take (k + 1) arms))
  filled_step arms k x slots e h at good =
      let parts = both (fits_arm inputs names x) (not (is_some (get_or slots (place_of inputs x.constructor) None))) good in
      slots_step (length inputs) (place_of inputs x.constructor) (place_of names x.target) (entries (take k arms)) slots e (input_within x parts.0) parts.1
      ∙ ap (entries_from 0 (length inputs)) (sym (taken_more (entry_of inputs names) arms k x h at))
