-- Local names and their binders.
use Rattle.std.proofs.Common.{◌≡◌, ◌↔◌, ℕ, zero, suc, List, [], ◌∷◌, map, length, get_or, slice_get, Option, Some, None, refl, sym, ◌∙◌, ap, subst, arith}
use Rattle.std.specs.Option.{option_map}
use Rattle.std.proofs.lemmas.List.{length-map}
use Rattle.rw_scope_rules.specs.declared.binding.Binding.{Binding}
use Rattle.rw_scope_rules.specs.declared.binding.Binding.TheVariants.{Local}
use Rattle.rw_types_solving.specs.Types.{Ty}
use Rattle.rw_types_rules.specs.Schemes.{World, scheme_at}
use Rattle.rw_types_rules.specs.WellTyped.{IsInstance, IsSigned, NameAgrees}
use Rattle.rw_types_equations.specs.declared.numbered.Numbered.{Numbered}
use Rattle.rw_types_equations.specs.Numbered.{typed_by, argument_numbers}

pub some_binder : (b : Option ℕ) (n m : ℕ) → b ≡ Some n → (t : ℕ → Ty) → (t n ≡ t m) ↔ (option_map t b ≡ Some (t m))
some_binder b n m e t = ((λ h. ap (option_map t) e ∙ ap Some h), (λ h. let p : Some (t n) ≡ Some (t m) = sym (ap (option_map t) e) ∙ h in cc))

pub no_binder : (b : Option ℕ) (m : ℕ) → b ≡ None → (t : ℕ → Ty) → ⊥ ↔ (option_map t b ≡ Some (t m))
no_binder b m e t = ((λ h. absurd h), (λ h. let p : None ≡ Some (t m) = sym (ap (option_map t) e) ∙ h in absurd (cc)))

mapped_get : (t : ℕ → Ty) (ls : List ℕ) (k : ℕ) → slice_get (map t ls) k ≡ option_map t (slice_get ls k)
mapped_get t [] k = refl
mapped_get t (l ∷ ls) zero = refl
mapped_get t (l ∷ ls) (suc k) = mapped_get t ls k

pub is_local_name : (w : World) (ls : List ℕ) (b : Binding) (k : ℕ) (o : Option ℕ) (a : Numbered) → b ≡ Local k → o ≡ slice_get ls k
    → (t : ℕ → Ty) → (option_map t o ≡ Some (t a.number)) ↔ NameAgrees w (map t ls) (Some b) (typed_by t a)
is_local_name w ls b k o a e p t =
    let g : slice_get (map t ls) k ≡ option_map t o = mapped_get t ls k ∙ ap (option_map t) (sym p) in (
      (λ h. subst (λ z. NameAgrees w (map t ls) (Some z) (typed_by t a)) (sym e) (g ∙ h)),
      (λ h. let q : NameAgrees w (map t ls) (Some (Local k)) (typed_by t a) = subst (λ z. NameAgrees w (map t ls) (Some z) (typed_by t a)) e h in sym g ∙ q),
    )

pub is_local_signed : (ls : List ℕ) (b : Binding) (k : ℕ) (o : Option ℕ) (n : ℕ) → b ≡ Local k → o ≡ slice_get ls k
    → (t : ℕ → Ty) → (option_map t o ≡ Some (t n)) ↔ IsSigned (map t ls) (Some b) (t n)
is_local_signed ls b k o n e p t =
    let g : slice_get (map t ls) k ≡ option_map t o = mapped_get t ls k ∙ ap (option_map t) (sym p) in (
      (λ h. subst (λ z. IsSigned (map t ls) (Some z) (t n)) (sym e) (g ∙ h)),
      (λ h. let q : IsSigned (map t ls) (Some (Local k)) (t n) = subst (λ z. IsSigned (map t ls) (Some z) (t n)) e h in sym g ∙ q),
    )

-- what is bound at top level
pub is_top_name : (w : World) (ls : List ℕ) (b c : Binding) (a : Numbered) → b ≡ c → ((t : ℕ → Ty) → IsInstance (scheme_at w (Some c)) (map t (argument_numbers a)) (t a.number) ↔ NameAgrees w (map t ls) (Some c) (typed_by t a))
    → (t : ℕ → Ty) → IsInstance (scheme_at w (Some b)) (map t (argument_numbers a)) (t a.number) ↔ NameAgrees w (map t ls) (Some b) (typed_by t a)
is_top_name w ls b c a e f t = (
  (λ h. subst (λ z. NameAgrees w (map t ls) (Some z) (typed_by t a)) (sym e) ((f t).0 (subst (λ z. IsInstance (scheme_at w (Some z)) (map t (argument_numbers a)) (t a.number)) e h))),
  (λ h. subst (λ z. IsInstance (scheme_at w (Some z)) (map t (argument_numbers a)) (t a.number)) (sym e) ((f t).1 (subst (λ z. NameAgrees w (map t ls) (Some z) (typed_by t a)) e h))),
)

pub itself : {P : Type 0} → P ↔ P
itself = ((λ h. h), (λ h. h))

pub name_as : (w : World) (ls : List ℕ) (x y : Option Binding) (a : Numbered) → x ≡ y → (t : ℕ → Ty) → NameAgrees w (map t ls) y (typed_by t a) ↔ NameAgrees w (map t ls) x (typed_by t a)
name_as w ls x y a e t = ((λ h. subst (λ z. NameAgrees w (map t ls) z (typed_by t a)) (sym e) h), (λ h. subst (λ z. NameAgrees w (map t ls) z (typed_by t a)) e h))

pub no_name : (w : World) (ls : List ℕ) (x : Option Binding) (a : Numbered) → x ≡ None → (t : ℕ → Ty) → ⊥ ↔ NameAgrees w (map t ls) x (typed_by t a)
no_name w ls x a e t = ((λ h. absurd h), (λ h. subst (λ z. NameAgrees w (map t ls) z (typed_by t a)) e h))

pub signed_as : (ls : List ℕ) (x y : Option Binding) (n : ℕ) → x ≡ y → (t : ℕ → Ty) → IsSigned (map t ls) y (t n) ↔ IsSigned (map t ls) x (t n)
signed_as ls x y n e t = ((λ h. subst (λ z. IsSigned (map t ls) z (t n)) (sym e) h), (λ h. subst (λ z. IsSigned (map t ls) z (t n)) e h))

-- one variable alone
pub only_one : (ns : List ℕ) (n : ℕ) → length ns ≡ 1 → (t : ℕ → Ty) → (t (get_or ns 0 0) ≡ t n) ↔ (map t ns ≡ t n ∷ [])
only_one [] n l t = absurd (omega arith)
only_one (m ∷ []) n l t = ((λ h. ap (λ z. z ∷ []) h), (λ h. cc))
only_one (m ∷ k ∷ ns) n l t = absurd (omega arith)

pub not_one : (ns : List ℕ) (n : ℕ) → (length ns ≡ 1 → ⊥) → (t : ℕ → Ty) → ⊥ ↔ (map t ns ≡ t n ∷ [])
not_one ns n f t = ((λ h. absurd h), (λ h. f (sym (length-map ns t) ∙ ap length h)))
