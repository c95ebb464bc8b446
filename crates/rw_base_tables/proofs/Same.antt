-- When two names are the same.
use Rattle.std.proofs.Common.{◌≡◌, true, false, refl, sym, ap, ◌∙◌}
use Rattle.std.proofs.lemmas.Slice.Eq.{bytes_eq-Decides}
use Rattle.rw_base_tables.specs.Tables.{Bytes, same_name}

pub one_name : (a b : Bytes) → same_name a b ≡ true → a ≡ b
one_name a b e = (bytes_eq-Decides a b).0 e

pub same_itself : (a : Bytes) → same_name a a ≡ true
same_itself a = (bytes_eq-Decides a a).1 refl

-- the order of the two doesn't matter
pub swapped : (a b : Bytes) → same_name a b ≡ same_name b a
swapped a b = elim (same_name a b) as (λ v. v ≡ same_name a b → v ≡ same_name b a) [
  | true ↦ (λ e. let s : a ≡ b = one_name a b (sym e) in sym (ap (λ z. same_name b z) s ∙ same_itself b))
  | false ↦ (λ e. elim (same_name b a) as (λ w. w ≡ same_name b a → false ≡ w) [
    | true ↦ (λ f. let s : b ≡ a = one_name b a (sym f) in e ∙ ap (λ z. same_name a z) s ∙ same_itself a)
    | false ↦ (λ f. refl)
  ] refl)
] refl
