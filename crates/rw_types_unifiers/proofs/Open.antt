-- How many variables a substitution leaves open: binding one leaves fewer.
use Rattle.std.proofs.Common.{◌≡◌, ℕ, zero, suc, ◌+◌, ◌≤◌, ◌<◌, Bool, true, false, cond, nat_eq, refl, sym, ◌∙◌, ap, subst, arith, inl, inr}
use Rattle.std.proofs.lemmas.Bool.Decides.{nat_tests}
use Rattle.rw_types_solving.specs.Types.{Ty, var, app, apply, occurs, single, after}
use Rattle.rw_types_solving.proofs.Laws.{true_or_false, is_same, itself, single_there}
use Rattle.rw_types_solving.proofs.Steps.{Step}

-- whether a type is this variable
abbrev pub is_var : ℕ → Ty → Bool
is_var x (var y) = nat_eq x y
is_var x (app h ts) = false

-- how many of the first n variables stand for themselves
abbrev pub open_count : (ℕ → Ty) → ℕ → ℕ
open_count s zero = 0
open_count s (suc n) = cond (is_var n (s n)) 1 0 + open_count s n

is_var_occurs : (x : ℕ) (t : Ty) → is_var x t ≡ true → occurs x t ≡ true
is_var_occurs x (var y) e = e
is_var_occurs x (app h ts) e = absurd (cc)

absent_var : (x : ℕ) (t : Ty) → occurs x t ≡ false → is_var x t ≡ false
absent_var x (var y) e = e
absent_var x (app h ts) e = refl

pub var_is : (x : ℕ) (t : Ty) → t ≡ var x → is_var x t ≡ true
var_is x t e = ap (is_var x) e ∙ itself x

not_more : (a b : Bool) → (b ≡ true → a ≡ true) → cond b 1 0 ≤ cond a 1 0
not_more true true h = omega arith
not_more true false h = omega arith
not_more false true h = absurd (let e : false ≡ true = h refl in cc)
not_more false false h = omega arith

grow_step : (a b : Bool) (m k : ℕ) → (b ≡ true → a ≡ true) → m ≤ k → cond b 1 0 + m ≤ cond a 1 0 + k
grow_step a b m k h l = let j = not_more a b h in omega arith

fall_step : (a b : Bool) (m k : ℕ) → (b ≡ true → a ≡ true) → m < k → cond b 1 0 + m < cond a 1 0 + k
fall_step a b m k h l = let j = not_more a b h in omega arith

fall_here : (a b : Bool) (m k : ℕ) → a ≡ true → b ≡ false → m ≤ k → cond b 1 0 + m < cond a 1 0 + k
fall_here a b m k e f l = rw (e, f) (omega arith)

-- what is open under r was open under s
module _ (s r : ℕ → Ty) (stays : (y : ℕ) → is_var y (r y) ≡ true → is_var y (s y) ≡ true) where
  open_grow : (n : ℕ) → open_count r n ≤ open_count s n
  open_grow zero = omega arith
  open_grow (suc n) = grow_step (is_var n (s n)) (is_var n (r n)) (open_count r n) (open_count s n) (stays n) (open_grow n)

  open_fall : (n x : ℕ) → x < n → is_var x (s x) ≡ true → is_var x (r x) ≡ false → open_count r n < open_count s n
  open_fall zero x l e f = absurd (omega arith)
  open_fall (suc n) x l e f = elim (true_or_false (nat_eq x n)) [
    | inl p ↦ let same = is_same x n p in
        fall_here (is_var n (s n)) (is_var n (r n)) (open_count r n) (open_count s n) (subst (λ z. is_var z (s z) ≡ true) same e) (subst (λ z. is_var z (r z) ≡ false) same f) (open_grow n)
    | inr p ↦ fall_step (is_var n (s n)) (is_var n (r n)) (open_count r n) (open_count s n) (stays n) (open_fall n x (grind (arith, nat_tests)) e f)
  ]

module _ (s : ℕ → Ty) (x : ℕ) (u : Ty) (k : Step s x u) where
  single_var : (y z : ℕ) → s y ≡ var z → is_var y (single x u z) ≡ true → is_var y (s y) ≡ true
  single_var y z e o = elim (true_or_false (nat_eq x z)) [
    | inl p ↦ let o2 : is_var y u ≡ true = (rw p at o) in var_is y (s y) (k.kept y (is_var_occurs y u o2))
    | inr p ↦ let o2 : nat_eq y z ≡ true = (rw p at o) in ap (is_var y) e ∙ o2
  ]

  bound_var : (y : ℕ) (c : Ty) → s y ≡ c → is_var y (apply (single x u) c) ≡ true → is_var y (s y) ≡ true
  bound_var y (var z) e o = single_var y z e o
  bound_var y (app h ts) e o = absurd (cc)

  -- binding x leaves fewer open
  pub step_falls : (n : ℕ) → x < n → open_count (after (single x u) s) n < open_count s n
  step_falls n l =
      let here : after (single x u) s x ≡ u = ap (apply (single x u)) k.is_open ∙ single_there x u in
      open_fall s (after (single x u) s) (λ y o. bound_var y (s y) refl o) n x l (var_is x (s x) k.is_open) (ap (is_var x) here ∙ absent_var x u k.absent)
