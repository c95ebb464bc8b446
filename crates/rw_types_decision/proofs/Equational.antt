-- What equations say of a substitution, and how such statements are joined.
use Rattle.std.proofs.Common.{◌≡◌, ◌↔◌, ◌⊎◌, inl, inr, ℕ, List, [], ◌∷◌, ◌++◌, map, refl, sym, ◌∙◌, ap, subst}
use Rattle.rw_types_solving.specs.Types.{Ty, apply}
use Rattle.rw_types_rules.specs.Words.{function, unit_type}
use Rattle.rw_types_unifiers.specs.Unifiers.{Unifies}

-- a statement about substitutions that holds exactly of those that unify some equations
pub record IsEquational (P : (ℕ → Ty) → Type 0) : Type 0 where
  pub equations : List (Ty × Ty)
  pub exactly : (t : ℕ → Ty) → P t ↔ Unifies t equations

-- == Lists of equations ==

module _ (t : ℕ → Ty) where
  joined : (es fs : List (Ty × Ty)) → Unifies t es → Unifies t fs → Unifies t (es ++ fs)
  joined [] fs u v = v
  joined (e ∷ es) fs u v = (u.0, joined es fs u.1 v)

  first_of : (es fs : List (Ty × Ty)) → Unifies t (es ++ fs) → Unifies t es
  first_of [] fs u = tt
  first_of (e ∷ es) fs u = (u.0, first_of es fs u.1)

  second_of : (es fs : List (Ty × Ty)) → Unifies t (es ++ fs) → Unifies t fs
  second_of [] fs u = u
  second_of (e ∷ es) fs u = second_of es fs u.1

-- == Statements ==

-- the same statement
pub exchanged : {P Q : (ℕ → Ty) → Type 0} → ((t : ℕ → Ty) → P t → Q t) → ((t : ℕ → Ty) → Q t → P t) → IsEquational P → IsEquational Q
exchanged f g p = record { equations = p.equations; exactly = λ t. ((λ h. (p.exactly t).0 (g t h)), (λ u. f t ((p.exactly t).1 u))) }

pub nothing : IsEquational (λ t. Unit {0})
nothing = record { equations = []; exactly = λ t. ((λ h. tt), (λ u. tt)) }

-- no type of a function is the unit type
never_one : (t : ℕ → Ty) → Unifies t ((function unit_type unit_type, unit_type) ∷ []) → ⊥
never_one t u = let e = u.0 in cc

pub never : IsEquational (λ t. ⊥)
never = record { equations = (function unit_type unit_type, unit_type) ∷ []; exactly = λ t. ((λ h. absurd h), (λ u. never_one t u)) }

-- a statement that speaks of no substitution
pub decided : {A : Type 0} → A ⊎ (A → ⊥) → IsEquational (λ t. A)
decided (inl a) = exchanged (λ t h. a) (λ t h. tt) nothing
decided (inr f) = exchanged (λ t h. absurd h) (λ t h. f h) never

pub both : {P Q : (ℕ → Ty) → Type 0} → IsEquational P → IsEquational Q → IsEquational (λ t. P t × Q t)
both p q = record {
  equations = p.equations ++ q.equations;
  exactly = λ t. (
    (λ h. joined t p.equations q.equations ((p.exactly t).0 h.0) ((q.exactly t).0 h.1)),
    (λ u. ((p.exactly t).1 (first_of t p.equations q.equations u), (q.exactly t).1 (second_of t p.equations q.equations u))),
  );
}

pub three : {P Q R : (ℕ → Ty) → Type 0} → IsEquational P → IsEquational Q → IsEquational R → IsEquational (λ t. P t × Q t × R t)
three p q r = exchanged (λ t h. (h.0, h.1.0, h.1.1)) (λ t h. (h.0, (h.1, h.2))) (both p (both q r))

pub four : {P Q R S : (ℕ → Ty) → Type 0} → IsEquational P → IsEquational Q → IsEquational R → IsEquational S → IsEquational (λ t. P t × Q t × R t × S t)
four p q r s = exchanged (λ t h. (h.0, h.1, h.2.0, h.2.1)) (λ t h. (h.0, h.1, (h.2, h.3))) (three p q (both r s))

-- == Types ==

-- two types under the substitution are one
pub same : (a b : Ty) → IsEquational (λ t. apply t a ≡ apply t b)
same a b = record { equations = (a, b) ∷ []; exactly = λ t. ((λ h. (h, tt)), (λ u. u.0)) }

-- and as they are spelled otherwise
pub same_as : (a b : Ty) {X Y : (ℕ → Ty) → Ty} → ((t : ℕ → Ty) → X t ≡ apply t a) → ((t : ℕ → Ty) → Y t ≡ apply t b) → IsEquational (λ t. X t ≡ Y t)
same_as a b x y = exchanged (λ t h. x t ∙ h ∙ sym (y t)) (λ t h. sym (x t) ∙ h ∙ y t) (same a b)

-- of an equal thing the same is said
pub along : {A : Type 0} (P : (ℕ → Ty) → A → Type 0) {X Y : (ℕ → Ty) → A} → ((t : ℕ → Ty) → X t ≡ Y t) → IsEquational (λ t. P t (X t)) → IsEquational (λ t. P t (Y t))
along P e p = exchanged (λ t h. subst (P t) (e t) h) (λ t h. subst (P t) (sym (e t)) h) p

-- two lists of types
more_same : (t : ℕ → Ty) (a b : Ty) (us vs : List Ty) → (apply t a ≡ apply t b) × (map (apply t) us ≡ map (apply t) vs) → map (apply t) (a ∷ us) ≡ map (apply t) (b ∷ vs)
more_same t a b us vs h = λ i. h.0 i ∷ h.1 i

less_same : (t : ℕ → Ty) (a b : Ty) (us vs : List Ty) → map (apply t) (a ∷ us) ≡ map (apply t) (b ∷ vs) → (apply t a ≡ apply t b) × (map (apply t) us ≡ map (apply t) vs)
less_same t a b us vs h = (cc, cc)

pub same_lists : (us vs : List Ty) → IsEquational (λ t. map (apply t) us ≡ map (apply t) vs)
same_lists [] [] = exchanged (λ t h. refl) (λ t h. tt) nothing
same_lists [] (b ∷ vs) = exchanged (λ t h. absurd h) (λ t h. cc) never
same_lists (a ∷ us) [] = exchanged (λ t h. absurd h) (λ t h. cc) never
same_lists (a ∷ us) (b ∷ vs) = exchanged (λ t h. more_same t a b us vs h) (λ t h. less_same t a b us vs h) (both (same a b) (same_lists us vs))

pub same_lists_as : (us vs : List Ty) {X Y : (ℕ → Ty) → List Ty} → ((t : ℕ → Ty) → X t ≡ map (apply t) us) → ((t : ℕ → Ty) → Y t ≡ map (apply t) vs) → IsEquational (λ t. X t ≡ Y t)
same_lists_as us vs x y = exchanged (λ t h. x t ∙ h ∙ sym (y t)) (λ t h. sym (x t) ∙ h ∙ y t) (same_lists us vs)
