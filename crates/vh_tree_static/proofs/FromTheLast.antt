-- Names are distinct from the last one back.
use Rattle.std.proofs.Common.{◌≡◌, ℕ, zero, suc, ◌+◌, ◌<◌, Bool, true, false, not, ◌&&◌, ◌||◌, List, [], ◌∷◌, drop, length, get_or, is_some, Option, Some, refl, sym, ap, ◌∙◌, true≢false, if◌then◌else◌}
use Rattle.vh_tree.specs.Bits.{Bytes, is_among, same_name}
use Rattle.vh_tree.specs.StaticRules.{are_distinct}
use Rattle.vh_tree_static.proofs.Here.{cons_at}
use Rattle.rw_base_tables.proofs.Same.{swapped}

pub right : (a b : Bool) → (a && b) ≡ true → b ≡ true
right true b h = h
right false b h = absurd (true≢false (sym h))

later : (n : ℕ) (xs : List Bytes) → are_distinct xs ≡ true → are_distinct (drop n xs) ≡ true
later zero xs h = h
later (suc n) [] h = refl
later (suc n) (x ∷ xs) h = later n xs (right (not (is_among x xs)) (are_distinct xs) h)

pub against : (b : Bool) → (b ≡ true → ⊥) → b ≡ false
against true h = absurd (h refl)
against false h = refl

pub one_more : {V : Type 0} (b : Bool) (v : V) (r : Option V) → is_some (if b then Some v else r) ≡ (b || is_some r)
one_more true v r = refl
one_more false v r = refl

module _ (names : List Bytes) (i j : ℕ) (x : Bytes) (next : j ≡ i + 1) (lt : i < length names) (is : x ≡ get_or names i x) where
  from_here : drop i names ≡ x ∷ drop j names
  from_here = cons_at names i x lt is ∙ ap (λ k. x ∷ drop k names) (sym next)

  -- a name that stands again behind itself
  pub stops : is_among x (drop j names) ≡ true → are_distinct names ≡ false
  stops again = against (are_distinct names) (λ h. true≢false (sym (later i names h) ∙ ap are_distinct from_here ∙ ap (λ b. not b && are_distinct (drop j names)) again))

  -- a name that doesn't
  pub goes_on : is_among x (drop j names) ≡ false → are_distinct (drop j names) ≡ true → are_distinct (drop i names) ≡ true
  goes_on new rest = ap are_distinct from_here ∙ ap (λ b. not b && are_distinct (drop j names)) new ∙ rest

  -- what was seen, with that name
  pub sees : {V : Type 0} (n y : Bytes) (v : V) (r : Option V) → n ≡ x → is_some r ≡ is_among y (drop j names) → is_some (if same_name n y then Some v else r) ≡ is_among y (drop i names)
  sees n y v r e h =
      one_more (same_name n y) v r ∙ ap (λ b. b || is_some r) (swapped n y ∙ ap (same_name y) e) ∙ ap (λ b. same_name y x || b) h ∙ ap (is_among y) (sym from_here)
