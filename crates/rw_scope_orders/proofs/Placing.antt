-- What is placed, and what is left.
use Rattle.std.proofs.Common.{◌≡◌, ℕ, zero, suc, List, [], ◌∷◌, ◌++◌, Bool, true, false, ◌||◌, if◌then◌else◌, Option, Some, None, refl, ap, subst, sym, ◌∙◌}
use Rattle.std.specs.List.Sorted.{IsPermutation}
use Rattle.std.proofs.lemmas.List.Sorted.{IsPermutation-refl, IsPermutation-sym, IsPermutation-trans, IsPermutation-cons, IsPermutation-middle}
use Rattle.rw_scope_orders.specs.Placing.{next, without_next, before, placed_in, left_after}

-- == Truth values ==

or_on : (x y z : Bool) → (x || y) ≡ true → (y ≡ true → z ≡ true) → (x || z) ≡ true
or_on true y z e k = refl
or_on false y z e k = k e

or_moved : (x y z u : Bool) → (x || y) ≡ true → (y ≡ true → (z || u) ≡ true) → (z || (x || u)) ≡ true
or_moved true y true u e k = refl
or_moved true y false u e k = refl
or_moved false y z u e k = k e

module _ {B : Type 0} (waits : List B → B → Bool) where
  -- == What is next ==

  ready_by : (left bs : List B) (b c : B) → (next waits left bs ≡ Some b → waits left b ≡ false) → (w : Bool) → waits left c ≡ w → (if w then next waits left bs else Some c) ≡ Some b → waits left b ≡ false
  ready_by left bs b c ih true h e = ih e
  ready_by left bs b c ih false h e = let k : c ≡ b = cc in subst (λ z. waits left z ≡ false) k h

  -- what is next does not wait
  next_ready : (left bs : List B) (b : B) → next waits left bs ≡ Some b → waits left b ≡ false
  next_ready left [] b e = absurd (cc)
  next_ready left (c ∷ bs) b e = ready_by left bs b c (next_ready left bs b) (waits left c) refl e

  taken_by : (left bs : List B) (b c : B) → (next waits left bs ≡ Some b → IsPermutation (b ∷ without_next waits left bs) bs) → (w : Bool) → (if w then next waits left bs else Some c) ≡ Some b
      → IsPermutation (b ∷ (if w then c ∷ without_next waits left bs else bs)) (c ∷ bs)
  taken_by left bs b c ih true e =
      let less = without_next waits left bs in
      let swapped : IsPermutation (b ∷ c ∷ less) (c ∷ b ∷ less) = IsPermutation-sym (c ∷ b ∷ less) (b ∷ c ∷ less) (IsPermutation-middle (c ∷ []) b less) in
      IsPermutation-trans (b ∷ c ∷ less) (c ∷ b ∷ less) (c ∷ bs) swapped (IsPermutation-cons c (b ∷ less) bs (ih e))
  taken_by left bs b c ih false e = let k : c ≡ b = cc in subst (λ z. IsPermutation (z ∷ bs) (c ∷ bs)) k (IsPermutation-refl (c ∷ bs))

  -- it and the others are all
  taken : (left bs : List B) (b : B) → next waits left bs ≡ Some b → IsPermutation (b ∷ without_next waits left bs) bs
  taken left [] b e = absurd (cc)
  taken left (c ∷ bs) b e = taken_by left bs b c (taken left bs b) (waits left c) e

  none_less_by : (left bs : List B) (c : B) → (next waits left bs ≡ None → without_next waits left bs ≡ bs) → (w : Bool) → (if w then next waits left bs else Some c) ≡ None → (if w then c ∷ without_next waits left bs else bs) ≡ c ∷ bs
  none_less_by left bs c ih true e = ap (λ z. c ∷ z) (ih e)
  none_less_by left bs c ih false e = absurd (cc)

  -- where all wait, all are left
  none_less : (left bs : List B) → next waits left bs ≡ None → without_next waits left bs ≡ bs
  none_less left [] e = refl
  none_less left (c ∷ bs) e = none_less_by left bs c (none_less left bs) (waits left c) e

  -- == All ==

  all_left : (n : ℕ) (left : List B) → next waits left left ≡ None → left_after waits n left ≡ left
  all_left zero left e = refl
  all_left (suc n) left e = let k : without_next waits left left ≡ left = none_less left left e in ap (left_after waits n) k ∙ all_left n left e

  all_by : (n : ℕ) (left : List B) → IsPermutation (placed_in waits n (without_next waits left left) ++ left_after waits n (without_next waits left left)) (without_next waits left left) → (o : Option B)
      → next waits left left ≡ o → IsPermutation (before waits o (placed_in waits n (without_next waits left left)) ++ left_after waits n (without_next waits left left)) left
  all_by n left ih (Some b) e =
      let made = placed_in waits n (without_next waits left left) ++ left_after waits n (without_next waits left left) in
      IsPermutation-trans (b ∷ made) (b ∷ without_next waits left left) left (IsPermutation-cons b made (without_next waits left left) ih) (taken left left b e)
  all_by n left ih None e =
      let k : left ≡ left_after waits n (without_next waits left left) = sym (ap (left_after waits n) (none_less left left e) ∙ all_left n left e) in
      subst (λ z. IsPermutation z left) k (IsPermutation-refl left)

  -- what is placed and what is left are all
  pub placed_and_left : (n : ℕ) (left : List B) → IsPermutation (placed_in waits n left ++ left_after waits n left) left
  placed_and_left zero left = IsPermutation-refl left
  placed_and_left (suc n) left = all_by n left (placed_and_left n (without_next waits left left)) (next waits left left) refl

  -- == What comes before ==

  module _ (P : B → Bool) (any : List B → Bool) (none : any [] ≡ false) (more : (b : B) (bs : List B) → any (b ∷ bs) ≡ (P b || any bs)) where
    among_by : (left bs : List B) (b c : B) → (next waits left bs ≡ Some b → any bs ≡ true → (P b || any (without_next waits left bs)) ≡ true) → (w : Bool) → (if w then next waits left bs else Some c) ≡ Some b
        → (P c || any bs) ≡ true → (P b || any (if w then c ∷ without_next waits left bs else bs)) ≡ true
    among_by left bs b c ih true e h = ap (λ z. P b || z) (more c (without_next waits left bs)) ∙ or_moved (P c) (any bs) (P b) (any (without_next waits left bs)) h (ih e)
    among_by left bs b c ih false e h = let k : c ≡ b = cc in subst (λ z. (P z || any bs) ≡ true) k h

    -- something among all is what is next, or among the others
    among : (left bs : List B) (b : B) → next waits left bs ≡ Some b → any bs ≡ true → (P b || any (without_next waits left bs)) ≡ true
    among left [] b e h = absurd (cc)
    among left (c ∷ bs) b e h = among_by left bs b c (among left bs b) (waits left c) e (sym (more c bs) ∙ h)

    -- the step of the law below, where c is placed first
    placed_first : (n : ℕ) (left first : List B) (b c : B) (after : List B) → next waits left left ≡ Some c → c ∷ placed_in waits n (without_next waits left left) ≡ first ++ b ∷ after
        → (waits left b ≡ false → any left ≡ false) → any left ≡ true
        → ((others : List B) → placed_in waits n (without_next waits left left) ≡ others ++ b ∷ after → any (without_next waits left left) ≡ true → any others ≡ true) → any first ≡ true
    placed_first n left [] b c after g e ready h ih =
        let k : c ≡ b = cc in
        let f : any left ≡ false = ready (subst (λ z. waits left z ≡ false) k (next_ready left left c g)) in
        absurd (cc)
    placed_first n left (d ∷ first) b c after g e ready h ih =
        let k : c ≡ d = cc in
        let j : placed_in waits n (without_next waits left left) ≡ first ++ b ∷ after = cc in
        let i : (P d || any (without_next waits left left)) ≡ true = subst (λ z. (P z || any (without_next waits left left)) ≡ true) k (among left left c g h) in
        more d first ∙ or_on (P d) (any (without_next waits left left)) (any first) i (ih first j)

    placed_by : (n : ℕ) (left first : List B) (b : B) (after : List B) (o : Option B) → next waits left left ≡ o → before waits o (placed_in waits n (without_next waits left left)) ≡ first ++ b ∷ after
        → (waits left b ≡ false → any left ≡ false) → any left ≡ true
        → ((others : List B) → placed_in waits n (without_next waits left left) ≡ others ++ b ∷ after → any (without_next waits left left) ≡ true → any others ≡ true) → any first ≡ true
    placed_by n left [] b after None g e ready h ih = absurd (cc)
    placed_by n left (d ∷ first) b after None g e ready h ih = absurd (cc)
    placed_by n left first b after (Some c) g e ready h ih = placed_first n left first b c after g e ready h ih

    -- what is among all, and among nothing that is left when b is placed, is among what is placed before b
    pub earlier : (n : ℕ) (left first : List B) (b : B) (after : List B) → placed_in waits n left ≡ first ++ b ∷ after → ((rest : List B) → waits rest b ≡ false → any rest ≡ false) → any left ≡ true → any first ≡ true
    earlier zero left [] b after e ready h = absurd (cc)
    earlier zero left (c ∷ first) b after e ready h = absurd (cc)
    earlier (suc n) left first b after e ready h =
        placed_by n left first b after (next waits left left) refl e (ready left) h
        (λ others j i. earlier n (without_next waits left left) others b after j ready i)
