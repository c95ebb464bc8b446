-- Whether types are of sorts, for some sorts of their variables.
use Rattle.std.proofs.Common.{◌≡◌, ◌⊎◌, inl, inr, ℕ, zero, suc, ◌+◌, ◌<◌, ◌≤◌, Bool, true, false, cond, nat_eq, List, [], ◌∷◌, length, Option, Some, None, refl, sym, ◌∙◌, ap, subst, arith}
use Rattle.rw_types_solving.specs.declared.term.Head.{Head}
use Rattle.rw_types_solving.specs.declared.term.Head.TheVariants as h
use Rattle.rw_types_solving.specs.declared.term.Sort.{Sort}
use Rattle.rw_types_solving.specs.declared.term.Sort.TheVariants as s
use Rattle.rw_types_solving.specs.Types.{Ty, Tys, var, app, none, more, apply, apply_in, occurs, occurs_in, nodes, Agrees}
use Rattle.rw_types_solving.specs.Sorts.{Heads, HasSort, HasSorts, head_sort, part_sort}
use Rattle.rw_types_solving.specs.Sorts.{Fits as HasParts}
use Rattle.rw_types_solving.specs.Tables.{most, Uses}
use Rattle.rw_types_solving.specs.Conditions.{is_state_monad, any}
use Rattle.rw_types_solving.proofs.Laws.{true_or_false, is_same, same_is, itself, or_right, instance_grows}
use Rattle.rw_types_solving.proofs.StateMonads.{state_back}
use Rattle.rw_types_solving.proofs.MostGeneral.{in_or_out}
use Rattle.rw_types_rules.specs.declared.kind.VariableKind.{VariableKind}
use Rattle.rw_types_rules.specs.declared.kind.VariableKind.TheVariants.{Plain, Monad, StateMonad, Layer}
use Rattle.rw_types_rules.specs.Schemes.{World}
use Rattle.rw_types_rules.specs.Typings.{heads_of, state_unknowns, IsType, MayBe}
use Rattle.rw_types_numbering.specs.Fits.{Fits}
use Rattle.rw_types_decision.proofs.Nodes.{number_decided}

-- == One list of sorts ==

abbrev pub IsDecided : Type 0 → Type 0
IsDecided A = A ⊎ (A → ⊥)

both_decided : {A B : Type 0} → IsDecided A → IsDecided B → IsDecided (A × B)
both_decided (inl a) (inl b) = inl (a, b)
both_decided (inl a) (inr g) = inr (λ h. g h.1)
both_decided (inr f) b = inr (λ h. f h.0)

same_decided : (k l : Sort) → IsDecided (k ≡ l)
same_decided s.Plain s.Plain = inl refl
same_decided s.Plain s.Monad = inr (λ e. cc)
same_decided s.Plain s.Layer = inr (λ e. cc)
same_decided s.Monad s.Plain = inr (λ e. cc)
same_decided s.Monad s.Monad = inl refl
same_decided s.Monad s.Layer = inr (λ e. cc)
same_decided s.Layer s.Plain = inr (λ e. cc)
same_decided s.Layer s.Monad = inr (λ e. cc)
same_decided s.Layer s.Layer = inl refl

arity_decided : (o : Option ℕ) (n : ℕ) → IsDecided (o ≡ Some n)
arity_decided None n = inr (λ e. cc)
arity_decided (Some m) n = elim (number_decided m n) [
  | inl e ↦ inl (ap Some e)
  | inr f ↦ inr (λ e. f (cc))
]

parts_decided : (w : Heads) (h : Head) (n : ℕ) → IsDecided (HasParts w h n)
parts_decided w h.Fun n = number_decided n 2
parts_decided w h.Comp n = number_decided n 2
parts_decided w h.I n = number_decided n 0
parts_decided w h.Layer n = number_decided n 2
parts_decided w h.StateT n = number_decided n 1
parts_decided w h.ReT n = number_decided n 2
parts_decided w (h.Unknown m) n = number_decided n 0
parts_decided w h.Tuple n = inl tt
parts_decided w (h.Data m) n = arity_decided (w.arity m) n

module _ (v : ℕ → Sort) (w : Heads) where
  mutual
    sort_decided : (k : Sort) (a : Ty) → IsDecided (HasSort v w k a)
    sort_decided k (var x) = same_decided (v x) k
    sort_decided k (app h ts) = both_decided (same_decided (head_sort w h) k) (sorts_decided h 0 ts)

    sorts_decided : (h : Head) (i : ℕ) (ts : Tys) → IsDecided (HasSorts v w h i ts)
    sorts_decided h i none = parts_decided w h i
    sorts_decided h i (more a ts) = both_decided (sort_decided (part_sort h i) a) (sorts_decided h (suc i) ts)

module _ (v : ℕ → Sort) (y : ℕ → Bool) (own : List VariableKind) (world : World) where
  small_decided : (a : Ty) → IsDecided (nodes a ≤ most)
  small_decided a = elim (in_or_out most (nodes a)) [
    | inl l ↦ inr (λ m. absurd (omega arith))
    | inr m ↦ inl m
  ]

  type_decided : (k : Sort) (a : Ty) → IsDecided (IsType v y own world k a)
  type_decided k a = both_decided (sort_decided v (heads_of world own) k a) (small_decided a)

  state_decided : (a : Ty) → IsDecided (is_state_monad y (state_unknowns own) a ≡ true)
  state_decided a = elim (true_or_false (is_state_monad y (state_unknowns own) a)) [
    | inl e ↦ inl e
    | inr f ↦ inr (λ e. let g : true ≡ false = sym e ∙ f in cc)
  ]

  may_decided : (kind : VariableKind) (a : Ty) → IsDecided (MayBe v y own world kind a)
  may_decided Plain a = type_decided s.Plain a
  may_decided Monad a = type_decided s.Monad a
  may_decided StateMonad a = both_decided (type_decided s.Monad a) (state_decided a)
  may_decided Layer a = type_decided s.Layer a

  pub fits_decided : (t : ℕ → Ty) (n : ℕ) (kinds : List VariableKind) → IsDecided (Fits v y own world t n kinds)
  fits_decided t n [] = inl tt
  fits_decided t n (kind ∷ kinds) = both_decided (may_decided kind (t n)) (fits_decided t (suc n) kinds)

-- == The sorts of the first n variables are what counts ==

module _ (v u : ℕ → Sort) (n : ℕ) (alike : (x : ℕ) → x < n → v x ≡ u x) where
  mutual
    sort_alike : (w : Heads) (k : Sort) (a : Ty) → ((x : ℕ) → occurs x a ≡ true → x < n) → HasSort v w k a → HasSort u w k a
    sort_alike w k (var x) uses g = sym (alike x (uses x (itself x))) ∙ g
    sort_alike w k (app h ts) uses g = (g.0, sorts_alike w h 0 ts uses g.1)

    sorts_alike : (w : Heads) (h : Head) (i : ℕ) (ts : Tys) → ((x : ℕ) → occurs_in x ts ≡ true → x < n) → HasSorts v w h i ts → HasSorts u w h i ts
    sorts_alike w h i none uses g = g
    sorts_alike w h i (more a ts) uses g = (
      sort_alike w (part_sort h i) a (λ x o. uses x (rw o refl)) g.0,
      sorts_alike w h (suc i) ts (λ x o. uses x (or_right (occurs x a) (occurs_in x ts) o)) g.1,
    )

  module _ (y : ℕ → Bool) (own : List VariableKind) (world : World) where
    may_alike : (kind : VariableKind) (a : Ty) → Uses n a → MayBe v y own world kind a → MayBe u y own world kind a
    may_alike Plain a uses h = (sort_alike (heads_of world own) s.Plain a uses h.0, h.1)
    may_alike Monad a uses h = (sort_alike (heads_of world own) s.Monad a uses h.0, h.1)
    may_alike StateMonad a uses h = ((sort_alike (heads_of world own) s.Monad a uses h.0.0, h.0.1), h.1)
    may_alike Layer a uses h = (sort_alike (heads_of world own) s.Layer a uses h.0, h.1)

    pub fits_alike : (t : ℕ → Ty) → ((x : ℕ) → x < n → Uses n (t x)) → (i : ℕ) (kinds : List VariableKind) → i + length kinds ≤ n → Fits v y own world t i kinds → Fits u y own world t i kinds
    fits_alike t uses i [] l h = tt
    fits_alike t uses i (kind ∷ kinds) l h = (may_alike kind (t i) (uses i (omega arith)) h.0, fits_alike t uses (suc i) kinds (omega arith) h.1)

-- == A search for sorts ==

abbrev placed : ℕ → Sort → (ℕ → Sort) → ℕ → Sort
placed n k v x = cond (nat_eq x n) k (v x)

placed_alike : (n : ℕ) (k : Sort) (v u : ℕ → Sort) → ((x : ℕ) → x < n → v x ≡ u x) → (x : ℕ) → x < suc n → placed n k v x ≡ placed n k u x
placed_alike n k v u e x l = elim (true_or_false (nat_eq x n)) [
  | inl p ↦ rw p refl
  | inr p ↦ rw p (e x (below x n p l))
]
  where
    below : (x n : ℕ) → nat_eq x n ≡ false → x < suc n → x < n
    below x n p l = elim (in_or_out x n) [
      | inl m ↦ m
      | inr m ↦ let same : x ≡ n = omega arith in let q = same_is x n same in absurd (cc)
    ]

placed_same : (n : ℕ) (v : ℕ → Sort) (x : ℕ) → v x ≡ placed n (v n) v x
placed_same n v x = elim (true_or_false (nat_eq x n)) [
  | inl p ↦ rw p (ap v (is_same x n p))
  | inr p ↦ rw p refl
]

abbrev Found : ((ℕ → Sort) → Type 0) → Type 0
Found P = ((v : ℕ → Sort) × P v) ⊎ ((v : ℕ → Sort) → P v → ⊥)

of_three : (n : ℕ) (P : (ℕ → Sort) → Type 0) → ((v u : ℕ → Sort) → ((x : ℕ) → x < suc n → v x ≡ u x) → P v → P u)
    → Found (λ v. P (placed n s.Plain v)) → Found (λ v. P (placed n s.Monad v)) → Found (λ v. P (placed n s.Layer v)) → Found P
of_three n P alike (inl (v, p)) b c = inl (placed n s.Plain v, p)
of_three n P alike (inr f) (inl (v, p)) c = inl (placed n s.Monad v, p)
of_three n P alike (inr f) (inr g) (inl (v, p)) = inl (placed n s.Layer v, p)
of_three n P alike (inr f) (inr g) (inr h) = inr (λ v p. nowhere (v n) v (alike v (placed n (v n) v) (λ x l. placed_same n v x) p))
  where
    nowhere : (k : Sort) (v : ℕ → Sort) → P (placed n k v) → ⊥
    nowhere s.Plain v p = f v p
    nowhere s.Monad v p = g v p
    nowhere s.Layer v p = h v p

pub sorts_found : (n : ℕ) (P : (ℕ → Sort) → Type 0) → ((v u : ℕ → Sort) → ((x : ℕ) → x < n → v x ≡ u x) → P v → P u) → ((v : ℕ → Sort) → IsDecided (P v)) → Found P
sorts_found zero P alike test = elim (test (λ x. s.Plain)) [
  | inl p ↦ inl ((λ x. s.Plain), p)
  | inr f ↦ inr (λ v p. f (alike v (λ x. s.Plain) (λ x l. absurd (omega arith)) p))
]
sorts_found (suc n) P alike test =
    of_three n P alike (sorts_found n (λ v. P (placed n s.Plain v)) (λ v u e p. alike (placed n s.Plain v) (placed n s.Plain u) (placed_alike n s.Plain v u e) p) (λ v. test (placed n s.Plain v)))
    (sorts_found n (λ v. P (placed n s.Monad v)) (λ v u e p. alike (placed n s.Monad v) (placed n s.Monad u) (placed_alike n s.Monad v u e) p) (λ v. test (placed n s.Monad v)))
    (sorts_found n (λ v. P (placed n s.Layer v)) (λ v u e p. alike (placed n s.Layer v) (placed n s.Layer u) (placed_alike n s.Layer v u e) p) (λ v. test (placed n s.Layer v)))

-- == The sorts of what instances replace ==

-- the sort that a type is of if it is of one
abbrev pub sort_at : (ℕ → Sort) → Heads → Ty → Sort
sort_at v w (var x) = v x
sort_at v w (app h ts) = head_sort w h

sort_is : (v : ℕ → Sort) (w : Heads) (k : Sort) (a : Ty) → HasSort v w k a → sort_at v w a ≡ k
sort_is v w k (var x) g = g
sort_is v w k (app h ts) g = g.0

module _ (v : ℕ → Sort) (t : ℕ → Ty) where
  mutual
    sort_back : (w : Heads) (k : Sort) (a : Ty) → HasSort v w k (apply t a) → HasSort (λ x. sort_at v w (t x)) w k a
    sort_back w k (var x) g = sort_is v w k (t x) g
    sort_back w k (app h ts) g = (g.0, sorts_back w h 0 ts g.1)

    sorts_back : (w : Heads) (h : Head) (i : ℕ) (ts : Tys) → HasSorts v w h i (apply_in t ts) → HasSorts (λ x. sort_at v w (t x)) w h i ts
    sorts_back w h i none g = g
    sorts_back w h i (more a ts) g = (sort_back w (part_sort h i) a g.0, sorts_back w h (suc i) ts g.1)

  module _ (y : ℕ → Bool) (own : List VariableKind) (world : World) where
    abbrev back : ℕ → Sort
    back x = sort_at v (heads_of world own) (t x)

    type_back : (k : Sort) (a : Ty) → IsType v y own world k (apply t a) → IsType back any own world k a
    type_back k a h = (sort_back (heads_of world own) k a h.0, (let g = instance_grows t a in let m = h.1 in omega arith))

    may_back : (kind : VariableKind) (a : Ty) → MayBe v y own world kind (apply t a) → MayBe back any own world kind a
    may_back Plain a h = type_back s.Plain a h
    may_back Monad a h = type_back s.Monad a h
    may_back StateMonad a h = (type_back s.Monad a h.0, state_back y (state_unknowns own) t a h.1)
    may_back Layer a h = type_back s.Layer a h

    pub fits_back : (g : ℕ → Ty) → Agrees t g → (n : ℕ) (kinds : List VariableKind) → Fits v y own world t n kinds → Fits back any own world g n kinds
    fits_back g e n [] h = tt
    fits_back g e n (kind ∷ kinds) h = (may_back kind (g n) (subst (MayBe v y own world kind) (e n) h.0), fits_back g e (suc n) kinds h.1)
