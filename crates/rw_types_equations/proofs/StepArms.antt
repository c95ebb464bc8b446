-- What `>>=` and `>>` in a block say of the numbers of their parts.
use Rattle.std.proofs.Common.{◌≡◌, ◌↔◌, ℕ, zero, suc, List, [], ◌∷◌, map, length, get_or, refl, sym, ◌∙◌, ap, subst, arith}
use Rattle.rw_types_solving.specs.Types.{Ty, var, apply}
use Rattle.rw_types_rules.specs.Words.{computation}
use Rattle.rw_types_rules.specs.WellTyped.{IsBind, IsThen}
use Rattle.rw_types_equations.specs.declared.numbered.Numbered.{Numbered}
use Rattle.rw_types_equations.specs.Numbered.{numbers_from, argument_numbers}

pub computation_is : (u m a x y : Ty) → u ≡ computation m a → m ≡ x → a ≡ y → u ≡ computation x y
computation_is u m a x y e p q = e ∙ ap (λ z. computation z a) p ∙ ap (computation x) q

pub is_bind_of : (ns : List ℕ) (e p b : ℕ) (u v : Ty) → length ns ≡ 3 → u ≡ computation (var (get_or ns 0 0)) (var (get_or ns 1 0)) → v ≡ computation (var (get_or ns 0 0)) (var (get_or ns 2 0))
    → (t : ℕ → Ty) → (((t e ≡ apply t u) × (t p ≡ t (get_or ns 1 0))) × (t b ≡ apply t v)) ↔ IsBind (map t ns) (t e) (t p) (t b)
is_bind_of [] e p b u v l f g t = absurd (omega arith)
is_bind_of (x ∷ []) e p b u v l f g t = absurd (omega arith)
is_bind_of (x ∷ y ∷ []) e p b u v l f g t = absurd (omega arith)
is_bind_of (x ∷ y ∷ z ∷ []) e p b u v l f g t =
    let c = ap (apply t) f in let d = ap (apply t) g in
    ((λ h. (h.0.0 ∙ c, h.0.1, h.1 ∙ d)), (λ h. ((h.0 ∙ sym c, h.1), h.2 ∙ sym d)))
is_bind_of (x ∷ y ∷ z ∷ a ∷ ns) e p b u v l f g t = absurd (omega arith)

pub no_bind_of : (ns : List ℕ) (e p b : ℕ) → (length ns ≡ 3 → ⊥) → (t : ℕ → Ty) → ⊥ ↔ IsBind (map t ns) (t e) (t p) (t b)
no_bind_of [] e p b f t = ((λ h. h), (λ h. h))
no_bind_of (x ∷ []) e p b f t = ((λ h. h), (λ h. h))
no_bind_of (x ∷ y ∷ []) e p b f t = ((λ h. h), (λ h. h))
no_bind_of (x ∷ y ∷ z ∷ []) e p b f t = ((λ h. absurd h), (λ h. f (omega arith)))
no_bind_of (x ∷ y ∷ z ∷ a ∷ ns) e p b f t = ((λ h. h), (λ h. h))

pub is_then_of : (ns : List ℕ) (e b : ℕ) (u v : Ty) → length ns ≡ 3 → u ≡ computation (var (get_or ns 0 0)) (var (get_or ns 1 0)) → v ≡ computation (var (get_or ns 0 0)) (var (get_or ns 2 0))
    → (t : ℕ → Ty) → ((t e ≡ apply t u) × (t b ≡ apply t v)) ↔ IsThen (map t ns) (t e) (t b)
is_then_of [] e b u v l f g t = absurd (omega arith)
is_then_of (x ∷ []) e b u v l f g t = absurd (omega arith)
is_then_of (x ∷ y ∷ []) e b u v l f g t = absurd (omega arith)
is_then_of (x ∷ y ∷ z ∷ []) e b u v l f g t =
    let c = ap (apply t) f in let d = ap (apply t) g in
    ((λ h. (h.0 ∙ c, h.1 ∙ d)), (λ h. (h.0 ∙ sym c, h.1 ∙ sym d)))
is_then_of (x ∷ y ∷ z ∷ a ∷ ns) e b u v l f g t = absurd (omega arith)

pub no_then_of : (ns : List ℕ) (e b : ℕ) → (length ns ≡ 3 → ⊥) → (t : ℕ → Ty) → ⊥ ↔ IsThen (map t ns) (t e) (t b)
no_then_of [] e b f t = ((λ h. h), (λ h. h))
no_then_of (x ∷ []) e b f t = ((λ h. h), (λ h. h))
no_then_of (x ∷ y ∷ []) e b f t = ((λ h. h), (λ h. h))
no_then_of (x ∷ y ∷ z ∷ []) e b f t = ((λ h. absurd h), (λ h. f (omega arith)))
no_then_of (x ∷ y ∷ z ∷ a ∷ ns) e b f t = ((λ h. h), (λ h. h))

-- the names of a step are its arguments
pub bind_at : (a : Numbered) (ns : List ℕ) (e p b : ℕ) → ns ≡ argument_numbers a → (t : ℕ → Ty) → ((t a.number ≡ t b) × IsBind (map t ns) (t e) (t p) (t b)) ↔ ((t a.number ≡ t b) × IsBind (map t (argument_numbers a)) (t e) (t p) (t b))
bind_at a ns e p b q t = ((λ h. (h.0, subst (λ z. IsBind (map t z) (t e) (t p) (t b)) q h.1)), (λ h. (h.0, subst (λ z. IsBind (map t z) (t e) (t p) (t b)) (sym q) h.1)))

pub then_at : (a : Numbered) (ns : List ℕ) (e b : ℕ) → ns ≡ argument_numbers a → (t : ℕ → Ty) → ((t a.number ≡ t b) × IsThen (map t ns) (t e) (t b)) ↔ ((t a.number ≡ t b) × IsThen (map t (argument_numbers a)) (t e) (t b))
then_at a ns e b q t = ((λ h. (h.0, subst (λ z. IsThen (map t z) (t e) (t b)) q h.1)), (λ h. (h.0, subst (λ z. IsThen (map t z) (t e) (t b)) (sym q) h.1)))

-- the last one has no arguments
some_argument : (n k : ℕ) (t : ℕ → Ty) → (k ≡ 0 → ⊥) → map t (numbers_from n k) ≡ [] → ⊥
some_argument n zero t f e = f refl
some_argument n (suc k) t f e = absurd (cc)

pub no_last : (a : Numbered) (e b : ℕ) → (a.arguments ≡ 0 → ⊥) → (t : ℕ → Ty) → ⊥ ↔ ((t a.number ≡ t b) × (map t (argument_numbers a) ≡ []) × (t e ≡ t b))
no_last a e b f t = ((λ h. absurd h), (λ h. some_argument _ a.arguments t f h.1))

pub last_at : (a : Numbered) (e b : ℕ) → a.arguments ≡ 0 → (t : ℕ → Ty) → ((t a.number ≡ t b) × (t e ≡ t b)) ↔ ((t a.number ≡ t b) × (map t (argument_numbers a) ≡ []) × (t e ≡ t b))
last_at a e b p t = ((λ h. (h.0, ap (λ z. map t (numbers_from (suc a.number) z)) p, h.1)), (λ h. (h.0, h.2)))
