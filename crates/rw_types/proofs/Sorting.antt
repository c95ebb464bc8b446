-- A type is of one sort, its sort is that of its instances, and the test says so.
use Rattle.std.proofs.Common.{◌≡◌, ◌↔◌, ℕ, suc, Bool, true, false, ◌||◌, Option, Some, None, refl, sym, ◌∙◌, ap}
use Rattle.rw_types_solving.specs.declared.term.Head.{Head}
use Rattle.rw_types_solving.specs.declared.term.Head.TheVariants as h
use Rattle.rw_types_solving.specs.declared.term.Sort.{Sort}
use Rattle.rw_types_solving.specs.declared.term.Sort.TheVariants as s
use Rattle.rw_types_solving.specs.Types.{Ty, Tys, var, app, none, more, apply, apply_in, occurs, occurs_in}
use Rattle.rw_types_solving.specs.Sorts.{Heads, HasSort, HasSorts, Fits, head_sort, part_sort}
use Rattle.rw_types_solving.proofs.Laws.{or_right, itself, is_same, same_is}
use Rattle.rw_types_solving.proofs.StateMonads.{both, and_true}
use Rattle.rw_types.specs.Testing.{same_sort, is_arity, fits, has_sort, has_sorts}

pub one_sort : (v : ℕ → Sort) (w : Heads) (k l : Sort) (a : Ty) → HasSort v w k a → HasSort v w l a → k ≡ l
one_sort v w k l (var x) g f = sym g ∙ f
one_sort v w k l (app h ts) g f = sym g.0 ∙ f.0

or_left : (a b : Bool) → a ≡ true → (a || b) ≡ true
or_left true b e = refl
or_left false b e = absurd (cc)

module _ (v : ℕ → Sort) (w : Heads) (sorts : ℕ → Sort) (t : ℕ → Ty) where
  mutual
    pub general_sort : (k : Sort) (a : Ty) → HasSort v w k (apply t a) → ((y : ℕ) → occurs y a ≡ true → HasSort v w (sorts y) (t y)) → HasSort sorts w k a
    general_sort k (var x) g f = one_sort v w (sorts x) k (t x) (f x (itself x)) g
    general_sort k (app h ts) g f = (g.0, general_sorts h 0 ts g.1 f)

    pub general_sorts : (h : Head) (i : ℕ) (ts : Tys) → HasSorts v w h i (apply_in t ts) → ((y : ℕ) → occurs_in y ts ≡ true → HasSort v w (sorts y) (t y)) → HasSorts sorts w h i ts
    general_sorts h i none g f = g
    general_sorts h i (more a ts) g f =
        (general_sort (part_sort h i) a g.0 (λ y o. f y (or_left (occurs y a) (occurs_in y ts) o)), general_sorts h (suc i) ts g.1 (λ y o. f y (or_right (occurs y a) (occurs_in y ts) o)))

-- the test says it
same_told : (k l : Sort) → same_sort k l ≡ true → k ≡ l
same_told s.Plain s.Plain e = refl
same_told s.Monad s.Monad e = refl
same_told s.Layer s.Layer e = refl
same_told _ _ e = absurd (cc)

same_itself : (k : Sort) → same_sort k k ≡ true
same_itself s.Plain = refl
same_itself s.Monad = refl
same_itself s.Layer = refl

told_same : (k l : Sort) → k ≡ l → same_sort k l ≡ true
told_same k l e = sym (ap (same_sort k) e) ∙ same_itself k

arity_told : (o : Option ℕ) (n : ℕ) → is_arity o n ≡ true → o ≡ Some n
arity_told None n e = absurd (cc)
arity_told (Some m) n e = ap Some (is_same m n e)

told_arity : (o : Option ℕ) (n : ℕ) → o ≡ Some n → is_arity o n ≡ true
told_arity o n e = ap (λ z. is_arity z n) e ∙ itself n

fits_told : (w : Heads) (h : Head) (n : ℕ) → fits w h n ≡ true → Fits w h n
fits_told w h.Fun n e = is_same n 2 e
fits_told w h.Comp n e = is_same n 2 e
fits_told w h.I n e = is_same n 0 e
fits_told w h.Layer n e = is_same n 2 e
fits_told w h.StateT n e = is_same n 1 e
fits_told w h.ReT n e = is_same n 2 e
fits_told w (h.Unknown m) n e = is_same n 0 e
fits_told w h.Tuple n e = tt
fits_told w (h.Data m) n e = arity_told (w.arity m) n e

told_fits : (w : Heads) (h : Head) (n : ℕ) → Fits w h n → fits w h n ≡ true
told_fits w h.Fun n e = same_is n 2 e
told_fits w h.Comp n e = same_is n 2 e
told_fits w h.I n e = same_is n 0 e
told_fits w h.Layer n e = same_is n 2 e
told_fits w h.StateT n e = same_is n 1 e
told_fits w h.ReT n e = same_is n 2 e
told_fits w (h.Unknown m) n e = same_is n 0 e
told_fits w h.Tuple n e = refl
told_fits w (h.Data m) n e = told_arity (w.arity m) n e

module _ (v : ℕ → Sort) (w : Heads) where
  mutual
    pub sort_told : (k : Sort) (a : Ty) → has_sort v w k a ≡ true → HasSort v w k a
    sort_told k (var x) e = same_told (v x) k e
    sort_told k (app h ts) e = let b = both (same_sort (head_sort w h) k) (has_sorts v w h 0 ts) e in (same_told (head_sort w h) k b.0, sorts_told h 0 ts b.1)

    pub sorts_told : (h : Head) (i : ℕ) (ts : Tys) → has_sorts v w h i ts ≡ true → HasSorts v w h i ts
    sorts_told h i none e = fits_told w h i e
    sorts_told h i (more a ts) e =
        let b = both (has_sort v w (part_sort h i) a) (has_sorts v w h (suc i) ts) e in (sort_told (part_sort h i) a b.0, sorts_told h (suc i) ts b.1)

  mutual
    pub told_sort : (k : Sort) (a : Ty) → HasSort v w k a → has_sort v w k a ≡ true
    told_sort k (var x) g = told_same (v x) k g
    told_sort k (app h ts) g = and_true (same_sort (head_sort w h) k) (has_sorts v w h 0 ts) (told_same (head_sort w h) k g.0) (told_sorts h 0 ts g.1)

    pub told_sorts : (h : Head) (i : ℕ) (ts : Tys) → HasSorts v w h i ts → has_sorts v w h i ts ≡ true
    told_sorts h i none g = told_fits w h i g
    told_sorts h i (more a ts) g =
        and_true (has_sort v w (part_sort h i) a) (has_sorts v w h (suc i) ts) (told_sort (part_sort h i) a g.0) (told_sorts h (suc i) ts g.1)

  pub sort_test : (k : Sort) (a : Ty) (r : Bool) → r ≡ has_sort v w k a → (r ≡ true) ↔ HasSort v w k a
  sort_test k a r e = ((λ f. sort_told k a (sym e ∙ f)), (λ g. e ∙ told_sort k a g))
