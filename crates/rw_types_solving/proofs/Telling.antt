-- What the first difference of two types tells.
use Rattle.std.proofs.Common.{◌≡◌, ℕ, suc, ◌<◌, Bool, true, false, ◌||◌, nat_eq, nat_lt, cond, refl, sym, ◌∙◌, ap, subst, arith, inl, inr}
use Rattle.std.proofs.lemmas.Bool.Decides.{nat_tests}
use Rattle.rw_types_solving.specs.declared.term.Head.{Head}
use Rattle.rw_types_solving.specs.declared.term.Sort.{Sort}
use Rattle.rw_types_solving.specs.Types.{Ty, Tys, var, app, none, more, apply, apply_in, occurs, occurs_in, same_head}
use Rattle.rw_types_solving.specs.Sorts.{Heads, HasSort, HasSorts, part_sort}
use Rattle.rw_types_solving.specs.Inside.{Difference, Same, Clash, At, or_else, difference, differences}
use Rattle.rw_types_solving.proofs.Laws.{true_or_false, or_right, is_same, itself, head_is, head_self}

-- what is told of variables where the first difference is that x must be t
pub record Parts (x : ℕ) (t : Ty) (seen : ℕ → Bool) : Type 0 where
  pub here : seen x ≡ true
  pub within : (y : ℕ) → occurs y t ≡ true → seen y ≡ true
  pub falls : (y : ℕ) → t ≡ var y → y < x

abbrev pub seen : Ty → Ty → ℕ → Bool
seen a b x = occurs x a || occurs x b

abbrev pub seen_in : Tys → Tys → ℕ → Bool
seen_in a b x = occurs_in x a || occurs_in x b

abbrev pub Tells : Difference → Ty → Ty → Type 0
Tells Same a b = a ≡ b
Tells Clash a b = (s : ℕ → Ty) → apply s a ≡ apply s b → ⊥
Tells (At x t) a b =
    Parts x t (seen a b) × ((s : ℕ → Ty) → apply s a ≡ apply s b → s x ≡ apply s t)
    × ((v : ℕ → Sort) (w : Heads) (k : Sort) → HasSort v w k a → HasSort v w k b → HasSort v w (v x) t)

abbrev pub TellsIn : Difference → Tys → Tys → Type 0
TellsIn Same a b = a ≡ b
TellsIn Clash a b = (s : ℕ → Ty) → apply_in s a ≡ apply_in s b → ⊥
TellsIn (At x t) a b =
    Parts x t (seen_in a b) × ((s : ℕ → Ty) → apply_in s a ≡ apply_in s b → s x ≡ apply s t)
    × ((v : ℕ → Sort) (w : Heads) (h : Head) (i : ℕ) → HasSorts v w h i a → HasSorts v w h i b → HasSort v w (v x) t)

or_left : (a b : Bool) → a ≡ true → (a || b) ≡ true
or_left a b e = rw e refl

wider : (a b c d : Bool) → (a || c) ≡ true → ((a || b) || (c || d)) ≡ true
wider true b c d e = refl
wider false true c d e = refl
wider false false c d e = or_left c d e

wider_tail : (a b c d : Bool) → (b || d) ≡ true → ((a || b) || (c || d)) ≡ true
wider_tail true b c d e = refl
wider_tail false true c d e = refl
wider_tail false false c d e = or_right c d e

-- two variables, the first of which is the higher
higher : (x y : ℕ) → y < x → Tells (At x (var y)) (var x) (var y)
higher x y l = (
  record {
    here = or_left _ _ (itself x);
    within = λ z h. or_right (nat_eq z x) _ h;
    falls = λ z h. let same : y ≡ z = cc in omega arith;
  },
  λ s h. h,
  λ v w k a b. b ∙ sym a,
)

lower : (x y : ℕ) → x < y → Tells (At y (var x)) (var x) (var y)
lower x y l = (
  record {
    here = or_right (nat_eq y x) _ (itself y);
    within = λ z h. or_left _ _ h;
    falls = λ z h. let same : x ≡ z = cc in omega arith;
  },
  λ s h. sym h,
  λ v w k a b. a ∙ sym b,
)

must_be_lower : (x y : ℕ) → nat_eq x y ≡ false → nat_lt y x ≡ false → x < y
must_be_lower x y e l = grind (arith, nat_tests)

is_lower : (x y : ℕ) → nat_lt y x ≡ true → y < x
is_lower x y l = grind (arith, nat_tests)

var_var : (x y : ℕ) → Tells (cond (nat_eq x y) Same (cond (nat_lt y x) (At x (var y)) (At y (var x)))) (var x) (var y)
var_var x y = elim (true_or_false (nat_eq x y)) [
  | inl e ↦ rw e (ap var (is_same x y e))
  | inr e ↦ rw e (elim (true_or_false (nat_lt y x)) [
    | inl l ↦ rw l (higher x y (is_lower x y l))
    | inr l ↦ rw l (lower x y (must_be_lower x y e l))
  ])
]

at_sort : (v : ℕ → Sort) (w : Heads) (k : Sort) (x : ℕ) (t : Ty) → v x ≡ k → HasSort v w k t → HasSort v w (v x) t
at_sort v w k x t e h = subst (λ z. HasSort v w z t) (sym e) h

var_app : (x : ℕ) (k : Head) (us : Tys) → Tells (At x (app k us)) (var x) (app k us)
var_app x k us = (
  record {
    here = or_left _ _ (itself x);
    within = λ z h. or_right (nat_eq z x) _ h;
    falls = λ y h. absurd (cc);
  },
  λ s h. h,
  λ v w q a b. at_sort v w q x (app k us) a b,
)

app_var : (x : ℕ) (k : Head) (us : Tys) → Tells (At x (app k us)) (app k us) (var x)
app_var x k us = (
  record {
    here = or_right _ _ (itself x);
    within = λ z h. or_left _ _ h;
    falls = λ y h. absurd (cc);
  },
  λ s h. sym h,
  λ v w q a b. at_sort v w q x (app k us) b a,
)

app_app : (h k : Head) (ts us : Tys) (d : Difference) → h ≡ k → TellsIn d ts us → Tells d (app h ts) (app k us)
app_app h k ts us Same e i = cc
app_app h k ts us Clash e i = λ s p. let q : apply_in s ts ≡ apply_in s us = cc in i s q
app_app h k ts us (At x t) e i = (
  record { here = i.0.here; within = i.0.within; falls = i.0.falls },
  λ s p. let q : apply_in s ts ≡ apply_in s us = cc in i.1 s q,
  λ v w q a b. i.2 v w h 0 a.1 (subst (λ z. HasSorts v w z 0 us) (sym e) b.1),
)

heads : (h k : Head) (ts us : Tys) → same_head h k ≡ false → Tells Clash (app h ts) (app k us)
heads h k ts us e = λ s p. let q : h ≡ k = cc in let yes : same_head h k ≡ true = subst (λ z. same_head h z ≡ true) q (head_self h) in let no : true ≡ false = sym yes ∙ e in absurd (cc)

joined : (d e : Difference) (t u : Ty) (ts us : Tys) → Tells d t u → TellsIn e ts us → TellsIn (or_else d e) (more t ts) (more u us)
joined Same Same t u ts us i j = cc
joined Same Clash t u ts us i j = λ s p. let q : apply_in s ts ≡ apply_in s us = cc in j s q
joined Same (At x v) t u ts us i j = (
  record {
    here = wider_tail (occurs x t) (occurs_in x ts) (occurs x u) (occurs_in x us) j.0.here;
    within = λ y h. wider_tail (occurs y t) (occurs_in y ts) (occurs y u) (occurs_in y us) (j.0.within y h);
    falls = j.0.falls;
  },
  λ s p. let q : apply_in s ts ≡ apply_in s us = cc in j.1 s q,
  λ v w h n a b. j.2 v w h (suc n) a.1 b.1,
)
joined Clash e t u ts us i j = λ s p. let q : apply s t ≡ apply s u = cc in i s q
joined (At x v) e t u ts us i j = (
  record {
    here = wider (occurs x t) (occurs_in x ts) (occurs x u) (occurs_in x us) i.0.here;
    within = λ y h. wider (occurs y t) (occurs_in y ts) (occurs y u) (occurs_in y us) (i.0.within y h);
    falls = i.0.falls;
  },
  λ s p. let q : apply s t ≡ apply s u = cc in i.1 s q,
  λ v w h n a b. i.2 v w (part_sort h n) a.0 b.0,
)

mutual
  pub told : (a b : Ty) → Tells (difference a b) a b
  told (var x) (var y) = var_var x y
  told (var x) (app k us) = var_app x k us
  told (app h ts) (var y) = app_var y h ts
  told (app h ts) (app k us) = elim (true_or_false (same_head h k)) [
    | inl e ↦ rw e (app_app h k ts us (differences ts us) (head_is h k e) (told_in ts us))
    | inr e ↦ rw e (heads h k ts us e)
  ]

  pub told_in : (ts us : Tys) → TellsIn (differences ts us) ts us
  told_in none none = refl
  told_in none (more u us) = λ s p. absurd (cc)
  told_in (more t ts) none = λ s p. absurd (cc)
  told_in (more t ts) (more u us) = joined (difference t u) (differences ts us) t u ts us (told t u) (told_in ts us)
