-- One step of solving keeps the set of all solutions.
use Rattle.std.proofs.Common.{◌≤◌, ◌≡◌, ℕ, suc, ◌<◌, Bool, true, false, ◌||◌, nat_eq, refl, sym, ◌∙◌, ap, subst, arith, inl, inr, Option, Some, None}
use Rattle.rw_types_solving.specs.declared.term.Sort.{Sort}
use Rattle.rw_types_solving.specs.declared.term.Head.{Head}
use Rattle.rw_types_solving.specs.Types.{top, top_in, Ty, Tys, var, app, none, more, apply, apply_in, occurs, occurs_in, single, after, Agrees}
use Rattle.rw_types_solving.specs.Sorts.{Heads, HasSort, HasSorts, part_sort}
use Rattle.rw_types_solving.specs.Tables.{Uses, FollowsAt}
use Rattle.rw_types_solving.proofs.Laws.{true_or_false, either, or_right, is_same, same_is, compose, alike, alike_all, stays, not_there, single_there}

-- what agrees with a substitution gives a type and its image the same type
pub agreed : (t s : ℕ → Ty) (a : Ty) → Agrees t s → apply t (apply s a) ≡ apply t a
agreed t s a h = compose t s a ∙ alike_all (after t s) t a (λ x. sym (h x))

-- a type that a substitution leaves has only variables that it leaves
mutual
  pub left_alone : (s : ℕ → Ty) (x : ℕ) (t : Ty) → apply s t ≡ t → occurs x t ≡ true → s x ≡ var x
  left_alone s x (var y) e o = let same = is_same x y o in rw same e
  left_alone s x (app h ts) e o = let q : apply_in s ts ≡ ts = cc in left_alone_in s x ts q o

  pub left_alone_in : (s : ℕ → Ty) (x : ℕ) (ts : Tys) → apply_in s ts ≡ ts → occurs_in x ts ≡ true → s x ≡ var x
  left_alone_in s x none e o = absurd (cc)
  left_alone_in s x (more t ts) e o = elim (either _ _ o) [
    | inl p ↦ let q : apply s t ≡ t = cc in left_alone s x t q p
    | inr p ↦ let q : apply_in s ts ≡ ts = cc in left_alone_in s x ts q p
  ]

-- a variable of a solved type is open
pub still_open : (s : ℕ → Ty) (x : ℕ) (a : Ty) → Agrees s s → occurs x (apply s a) ≡ true → s x ≡ var x
still_open s x a h o = left_alone s x (apply s a) (agreed s s a h) o

-- to agree with one replacement is to meet its equation
pub one_agrees : (t : ℕ → Ty) (x : ℕ) (u : Ty) → t x ≡ apply t u → Agrees t (single x u)
one_agrees t x u h y = elim (true_or_false (nat_eq x y)) [
  | inl e ↦ let same = is_same x y e in rw e (ap t (sym same) ∙ h)
  | inr e ↦ rw e refl
]

-- what one step knows
pub record Step (s : ℕ → Ty) (x : ℕ) (u : Ty) : Type 0 where
  pub solved : Agrees s s
  pub is_open : s x ≡ var x
  pub kept : (y : ℕ) → occurs y u ≡ true → s y ≡ var y
  pub absent : occurs x u ≡ false

pub step_back : (s : ℕ → Ty) (x : ℕ) (u : Ty) (t : ℕ → Ty) → Agrees t s → t x ≡ apply t u → Agrees t (after (single x u) s)
step_back s x u t h e y = h y ∙ sym (agreed t (single x u) (s y) (one_agrees t x u e))

-- the new equation is met by what the table comes to then
settled : (s : ℕ → Ty) (x : ℕ) (u : Ty) → Step s x u → after (single x u) s x ≡ apply (after (single x u) s) u
settled s x u k =
    let here : after (single x u) s x ≡ u = ap (apply (single x u)) k.is_open ∙ single_there x u in
    let same : apply s u ≡ u = alike s var u k.kept ∙ stays u in
    let there : apply (after (single x u) s) u ≡ u = sym (compose (single x u) s u) ∙ ap (apply (single x u)) same ∙ not_there x u u k.absent in
    here ∙ sym there

pub step_here : (s : ℕ → Ty) (x : ℕ) (u : Ty) (y : ℕ) → Step s x u → nat_eq x y ≡ true → FollowsAt (after (single x u) s) y (Some u)
step_here s x u y k e = subst (λ z. after (single x u) s z ≡ apply (after (single x u) s) u) (is_same x y e) (settled s x u k)

pub step_elsewhere : (s : ℕ → Ty) (x : ℕ) (u : Ty) (y : ℕ) (o : Option Ty) → nat_eq x y ≡ false → FollowsAt s y o → FollowsAt (after (single x u) s) y o
step_elsewhere s x u y None n h = ap (apply (single x u)) h ∙ rw n refl
step_elsewhere s x u y (Some v) n h = ap (apply (single x u)) h ∙ compose (single x u) s v

-- a variable of an image comes from an image
in_first : (a b : Bool) → a ≡ true → (a || b) ≡ true
in_first a b e = rw e refl

mutual
  pub comes_from : (s : ℕ → Ty) (y : ℕ) (t : Ty) → occurs y (apply s t) ≡ true → (z : ℕ) × (occurs z t ≡ true) × (occurs y (s z) ≡ true)
  comes_from s y (var z) o = (z, same_is z z refl, o)
  comes_from s y (app h ts) o = comes_from_in s y ts o

  pub comes_from_in : (s : ℕ → Ty) (y : ℕ) (ts : Tys) → occurs_in y (apply_in s ts) ≡ true → (z : ℕ) × (occurs_in z ts ≡ true) × (occurs y (s z) ≡ true)
  comes_from_in s y none o = absurd (cc)
  comes_from_in s y (more t ts) o = elim (either _ _ o) [
    | inl p ↦ let c = comes_from s y t p in (c.0, in_first (occurs c.0 t) (occurs_in c.0 ts) c.1, c.2)
    | inr p ↦ let c = comes_from_in s y ts p in (c.0, or_right (occurs c.0 t) (occurs_in c.0 ts) c.1, c.2)
  ]

pub uses_image : (n : ℕ) (s : ℕ → Ty) (a : Ty) → ((x : ℕ) → x < n → Uses n (s x)) → Uses n a → Uses n (apply s a)
uses_image n s a w u y o = let c = comes_from s y a o in w c.0 (u c.0 c.1) y c.2

pub uses_single : (n x : ℕ) (u : Ty) → Uses n u → (z : ℕ) → z < n → Uses n (single x u z)
uses_single n x u h z l y = elim (true_or_false (nat_eq x z)) [
  | inl e ↦ rw e (h y)
  | inr e ↦ rw e (λ o. let same : y ≡ z = is_same y z o in omega arith)
]

-- a substitution that keeps sorts keeps the sort of a type
mutual
  pub sort_apply : (r : ℕ → Ty) (v q : ℕ → Sort) (w : Heads) (k : Sort) (t : Ty) → ((x : ℕ) → HasSort q w (v x) (r x)) → HasSort v w k t → HasSort q w k (apply r t)
  sort_apply r v q w k (var x) h e = subst (λ z. HasSort q w z (r x)) e (h x)
  sort_apply r v q w k (app g ts) h e = (e.0, sort_apply_in r v q w g 0 ts h e.1)

  pub sort_apply_in : (r : ℕ → Ty) (v q : ℕ → Sort) (w : Heads) (g : Head) (i : ℕ) (ts : Tys) → ((x : ℕ) → HasSort q w (v x) (r x)) → HasSorts v w g i ts → HasSorts q w g i (apply_in r ts)
  sort_apply_in r v q w g i none h e = e
  sort_apply_in r v q w g i (more t ts) h e = (sort_apply r v q w (part_sort g i) t h e.0, sort_apply_in r v q w g (suc i) ts h e.1)

pub sort_single : (v : ℕ → Sort) (w : Heads) (x : ℕ) (u : Ty) → HasSort v w (v x) u → (y : ℕ) → HasSort v w (v y) (single x u y)
sort_single v w x u h y = elim (true_or_false (nat_eq x y)) [
  | inl e ↦ rw e (subst (λ z. HasSort v w (v z) u) (is_same x y e) h)
  | inr e ↦ rw e refl
]

-- a type has no variable above its highest
mutual
  below_top : (t : Ty) (y : ℕ) → occurs y t ≡ true → y < top t
  below_top (var x) y o = let same = is_same y x o in omega arith
  below_top (app h ts) y o = below_top_in ts y o

  below_top_in : (ts : Tys) (y : ℕ) → occurs_in y ts ≡ true → y < top_in ts
  below_top_in none y o = absurd (cc)
  below_top_in (more t ts) y o = elim (either _ _ o) [
    | inl p ↦ let i = below_top t y p in omega arith
    | inr p ↦ let i = below_top_in ts y p in omega arith
  ]

pub uses_top : (n : ℕ) (a : Ty) → top a ≤ n → Uses n a
uses_top n a l y o = let i = below_top a y o in omega arith
