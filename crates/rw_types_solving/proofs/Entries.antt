-- Tables: what they come to, and what a new equation does.
use Rattle.std.proofs.Common.{◌^◌, ◌≡◌, ℕ, zero, suc, ◌<◌, false, nat_eq, cond, refl, sym, ◌∙◌, ap, subst, arith, inl, inr, Option, Some, None, List, [], ◌∷◌, length, set}
use Rattle.std.proofs.lemmas.Bool.Decides.{nat_tests}
use Rattle.rw_types_solving.specs.declared.term.Sort.{Sort}
use Rattle.rw_types_solving.specs.Types.{Ty, var, app, apply, single, after, Agrees}
use Rattle.rw_types_solving.specs.Sorts.{Heads, HasSort}
use Rattle.rw_types_solving.specs.Tables.{type_at, Meets, Solves, Follows, FollowsAt, Falls, IsSorted, IsTable, Uses}
use Rattle.rw_types_solving.specs.Inside.{opens}
use Rattle.rw_types_solving.proofs.Laws.{true_or_false, is_same, itself}
use Rattle.rw_types_solving.proofs.Steps.{agreed, Step, step_back, step_here, step_elsewhere, uses_image, uses_single, sort_apply, sort_single}

-- what the table comes to solves it, and so does each instance
meets_from : (t s : ℕ → Ty) (x : ℕ) (o : Option Ty) → Agrees t s → FollowsAt s x o → Meets t x o
meets_from t s x None a f = tt
meets_from t s x (Some u) a f = a x ∙ ap (apply t) f ∙ agreed t s u a

pub instance_solves : (table : List (Option Ty)) (s t : ℕ → Ty) → Follows table s → Agrees t s → Solves t table
instance_solves table s t f a x = meets_from t s x (type_at table x) a (f x)

meets_itself : (s : ℕ → Ty) (x : ℕ) (o : Option Ty) → FollowsAt s x o → Meets s x o
meets_itself s x None f = tt
meets_itself s x (Some u) f = f

pub solves_itself : (table : List (Option Ty)) (s : ℕ → Ty) → Follows table s → Solves s table
solves_itself table s f x = meets_itself s x (type_at table x) (f x)

pub agrees_itself : (table : List (Option Ty)) (k : IsTable table) → Agrees k.sub k.sub
agrees_itself table k = k.general k.sub (solves_itself table k.sub k.follows)

-- an open variable has no equation: links only lead down
no_var : (s : ℕ → Ty) (x y : ℕ) → s y ≡ var y → s y ≡ var x → y < x → ⊥
no_var s x y a b l = let e : var y ≡ var x = sym a ∙ b in let n : y ≡ x = cc in omega arith

descend_at : (table : List (Option Ty)) (s : ℕ → Ty) (x n y : ℕ) (o : Option Ty) → ((z : ℕ) → z < n → z < x → s z ≡ var x → ⊥) → Falls table
    → type_at table y ≡ o → FollowsAt s y o → y < suc n → y < x → s y ≡ var x → ⊥
descend_at table s x n y None ih fa e f l m h = no_var s x y f h m
descend_at table s x n y (Some (var z)) ih fa e f l m h = let lower = fa y z e in ih z (omega arith) (omega arith) (sym f ∙ h)
descend_at table s x n y (Some (app k us)) ih fa e f l m h = let c : apply s (app k us) ≡ var x = sym f ∙ h in absurd (cc)

descend : (table : List (Option Ty)) (s : ℕ → Ty) → Falls table → Follows table s → (x n y : ℕ) → y < n → y < x → s y ≡ var x → ⊥
descend table s fa f x zero y l m h = absurd (omega arith)
descend table s fa f x (suc n) y l m h = descend_at table s x n y (type_at table y) (λ z. descend table s fa f x n z) fa refl (f y) l m h

none_at : (table : List (Option Ty)) (s : ℕ → Ty) → Falls table → Follows table s → (x : ℕ) (o : Option Ty) → type_at table x ≡ o → FollowsAt s x o → s x ≡ var x → o ≡ None
none_at table s fa f x None e g h = refl
none_at table s fa f x (Some (var z)) e g h = let l = fa x z e in absurd (descend table s fa f x x z l l (sym g ∙ h))
none_at table s fa f x (Some (app k us)) e g h = let c : apply s (app k us) ≡ var x = sym g ∙ h in absurd (cc)

pub open_has_none : (table : List (Option Ty)) (s : ℕ → Ty) → Falls table → Follows table s → (x : ℕ) → s x ≡ var x → type_at table x ≡ None
open_has_none table s fa f x h = none_at table s fa f x (type_at table x) refl (f x) h

zero_suc : (y : ℕ) → nat_eq 0 (suc y) ≡ false
zero_suc y = grind (arith, nat_tests)

suc_zero : (y : ℕ) → nat_eq (suc y) 0 ≡ false
suc_zero y = grind (arith, nat_tests)

suc_suc : (x y : ℕ) → nat_eq (suc x) (suc y) ≡ nat_eq x y
suc_suc x y = grind (arith, nat_tests)

-- one more equation
pub type_at_set : (table : List (Option Ty)) (x : ℕ) (u : Ty) (y : ℕ) → x < length table → type_at (set table x (Some u)) y ≡ cond (nat_eq x y) (Some u) (type_at table y)
type_at_set [] x u y l = absurd (omega arith)
type_at_set (o ∷ os) zero u zero l = refl
type_at_set (o ∷ os) zero u (suc y) l = rw (zero_suc y) refl
type_at_set (o ∷ os) (suc x) u zero l = rw (suc_zero x) refl
type_at_set (o ∷ os) (suc x) u (suc y) l = rw (suc_suc x y) (type_at_set os x u y (omega arith))

pub opens_fall : (table : List (Option Ty)) (x : ℕ) (u : Ty) → x < length table → type_at table x ≡ None → opens (set table x (Some u)) < opens table
opens_fall [] x u l e = absurd (omega arith)
opens_fall (None ∷ os) zero u l e = omega arith
opens_fall (Some t ∷ os) zero u l e = absurd (cc)
opens_fall (None ∷ os) (suc x) u l e = let i = opens_fall os x u (omega arith) e in omega arith
opens_fall (Some t ∷ os) (suc x) u l e = opens_fall os x u (omega arith) e

pub length_set : (table : List (Option Ty)) (x : ℕ) (o : Option Ty) → length (set table x o) ≡ length table
length_set [] x o = refl
length_set (p ∷ os) zero o = refl
length_set (p ∷ os) (suc x) o = ap suc (length_set os x o)

-- what is known where the table gets the equation of x and u
pub record Next (table : List (Option Ty)) (x : ℕ) (u : Ty) : Type 0 where
  pub solved : IsTable table
  pub below : x < length table
  pub uses : Uses (length table) u
  pub falls : (y : ℕ) → u ≡ var y → y < x
  pub step : Step solved.sub x u

some_is : (u v : Ty) → Some u ≡ Some v → u ≡ v
some_is u v e = cc

module _ (old : List (Option Ty)) (x : ℕ) (u : Ty) (k : Next old x u) where
  now : List (Option Ty)
  now = set old x (Some u)

  now_at : (y : ℕ) → type_at (set old x (Some u)) y ≡ cond (nat_eq x y) (Some u) (type_at old y)
  now_at y = type_at_set old x u y k.below

  was_none : type_at old x ≡ None
  was_none = open_has_none old k.solved.sub k.solved.falls k.solved.follows x k.step.is_open

  next_falls : Falls (set old x (Some u))
  next_falls y z e = elim (true_or_false (nat_eq x y)) [
    | inl p ↦ let a : cond (nat_eq x y) (Some u) (type_at old y) ≡ Some (var z) = sym (now_at y) ∙ e in
        let b : Some u ≡ Some (var z) = (rw p at a) in
        let l = k.falls z (some_is u (var z) b) in let same = is_same x y p in omega arith
    | inr p ↦ let a : cond (nat_eq x y) (Some u) (type_at old y) ≡ Some (var z) = sym (now_at y) ∙ e in
        let b : type_at old y ≡ Some (var z) = (rw p at a) in k.solved.falls y z b
  ]

  next_follows : Follows (set old x (Some u)) (after (single x u) k.solved.sub)
  next_follows y = rw (now_at y) (elim (true_or_false (nat_eq x y)) [
    | inl p ↦ rw p (step_here k.solved.sub x u y k.step p)
    | inr p ↦ rw p (step_elsewhere k.solved.sub x u y (type_at old y) p (k.solved.follows y))
  ])

  -- a solution of the new table solves the old one
  meets_old : (t : ℕ → Ty) → Solves t (set old x (Some u)) → (y : ℕ) → Meets t y (type_at old y)
  meets_old t h y = elim (true_or_false (nat_eq x y)) [
    | inl p ↦ let same = is_same x y p in let n : type_at old y ≡ None = subst (λ z. type_at old z ≡ None) same was_none in rw n tt
    | inr p ↦ let a : Meets t y (cond (nat_eq x y) (Some u) (type_at old y)) = subst (Meets t y) (now_at y) (h y) in (rw p at a)
  ]

  pub solves_back : (t : ℕ → Ty) → Solves t (set old x (Some u)) → Solves t old
  solves_back t h = meets_old t h

  pub solves_new : (t : ℕ → Ty) → Solves t (set old x (Some u)) → t x ≡ apply t u
  solves_new t h = let a : Meets t x (cond (nat_eq x x) (Some u) (type_at old x)) = subst (Meets t x) (now_at x) (h x) in let p = itself x in (rw p at a)

  pub solves_on : (t : ℕ → Ty) → Solves t old → t x ≡ apply t u → Solves t (set old x (Some u))
  solves_on t h e y = rw (now_at y) (elim (true_or_false (nat_eq x y)) [
    | inl p ↦ rw p (subst (λ z. t z ≡ apply t u) (is_same x y p) e)
    | inr p ↦ rw p (h y)
  ])

  pub sorted_back : (v : ℕ → Sort) (w : Heads) → IsSorted v w (set old x (Some u)) → IsSorted v w old
  sorted_back v w h y a e = elim (true_or_false (nat_eq x y)) [
    | inl p ↦ let same = is_same x y p in let n : type_at old y ≡ None = subst (λ z. type_at old z ≡ None) same was_none in let c : Some a ≡ None = sym e ∙ n in absurd (cc)
    | inr p ↦ h y a (now_at y ∙ rw p e)
  ]

  pub sorted_on : (v : ℕ → Sort) (w : Heads) → IsSorted v w old → HasSort v w (v x) u → IsSorted v w (set old x (Some u))
  sorted_on v w h g y a e = elim (true_or_false (nat_eq x y)) [
    | inl p ↦ let c : cond (nat_eq x y) (Some u) (type_at old y) ≡ Some a = sym (now_at y) ∙ e in
        let b : Some u ≡ Some a = (rw p at c) in
        subst (HasSort v w (v y)) (some_is u a b) (subst (λ z. HasSort v w (v z) u) (is_same x y p) g)
    | inr p ↦ let c : cond (nat_eq x y) (Some u) (type_at old y) ≡ Some a = sym (now_at y) ∙ e in
        let b : type_at old y ≡ Some a = (rw p at c) in h y a b
  ]

  sorted_new : (v : ℕ → Sort) (w : Heads) → IsSorted v w (set old x (Some u)) → HasSort v w (v x) u
  sorted_new v w h = h x u (now_at x ∙ (let p = itself x in rw p refl))

  next_within : (y : ℕ) → y < length (set old x (Some u)) → Uses (length (set old x (Some u))) (after (single x u) k.solved.sub y)
  next_within y = rw (length_set old x (Some u)) (λ l. uses_image (length old) (single x u) (k.solved.sub y) (uses_single (length old) x u k.uses) (k.solved.within y l))

  pub next_table : IsTable (set old x (Some u))
  next_table = record {
    few = (let l = length_set old x (Some u) in let m = k.solved.few in omega arith);
    falls = next_falls;
    sub = after (single x u) k.solved.sub;
    follows = next_follows;
    general = λ t h. step_back k.solved.sub x u t (k.solved.general t (solves_back t h)) (solves_new t h);
    within = next_within;
    sorted = λ v w h y. sort_apply (single x u) v v w (v y) (k.solved.sub y) (sort_single v w x u (sorted_new v w h)) (k.solved.sorted v w (sorted_back v w h) y);
  }

  pub next_opens : opens (set old x (Some u)) < opens old
  next_opens = opens_fall old x u k.below was_none

-- no equation at all
none_meets : (t : ℕ → Ty) (x : ℕ) (o : Option Ty) → o ≡ None → Meets t x o
none_meets t x o e = rw e tt

pub free_solves : (table : List (Option Ty)) → ((x : ℕ) → type_at table x ≡ None) → (t : ℕ → Ty) → Solves t table
free_solves table n t x = none_meets t x (type_at table x) (n x)

pub free_sorted : (table : List (Option Ty)) → ((x : ℕ) → type_at table x ≡ None) → (v : ℕ → Sort) (w : Heads) → IsSorted v w table
free_sorted table n v w x u e = let c : Some u ≡ None = sym e ∙ n x in absurd (cc)

pub free_table : (table : List (Option Ty)) → length table < 2 ^ 32 → ((x : ℕ) → type_at table x ≡ None) → IsTable table
free_table table m n = record {
  few = m;
  falls = λ x y e. let c : Some (var y) ≡ None = sym e ∙ n x in absurd (cc);
  sub = var;
  follows = λ x. rw (n x) refl;
  general = λ t h x. refl;
  within = λ x l y o. let same : y ≡ x = is_same y x o in omega arith;
  sorted = λ v w h x. refl;
}
