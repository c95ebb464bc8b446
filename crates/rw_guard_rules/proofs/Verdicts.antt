-- A rule that is broken first is broken first at one place alone.
use Rattle.std.proofs.Common.{◌≡◌, ◌∙◌, sym, ℕ, false, Option, Some, None, inl, inr, refl, arith, ap}
use Rattle.std.proofs.lemmas.Bool.Decides.{nat_tests}
use Rattle.rw_base.specs.declared.place.Place.{Place}
use Rattle.rw_base.specs.declared.rule.Rule.{Rule}
use Rattle.rw_base.specs.declared.fail.Refusal.{Refusal}
use Rattle.rw_scope_rules.specs.Names.{is_before}
use Rattle.rw_guard_rules.specs.Verdict.{broken_or, IsKept}

-- two places of which neither is before the other are the same
alike : (p q : Place) → is_before p q ≡ false → is_before q p ≡ false → p ≡ q
alike p q h k =
    let e : p.line ≡ q.line = grind (arith, nat_tests) in
    let f : p.column ≡ q.column = grind (arith, nat_tests) in
    ap (λ (n : ℕ). let place : Place = record { line = n; column = p.column } in place) e ∙ ap (λ (n : ℕ). let place : Place = record { line = q.line; column = n } in place) f

abbrev refused_with : Rule → Place → Refusal
refused_with rule place = record { rule = rule; place = place }

same_refusal : (r s : Refusal) (rule : Rule) → r.rule ≡ rule → s.rule ≡ rule → r.place ≡ s.place → r ≡ s
same_refusal r s rule a b c = ap (λ x. refused_with x r.place) (a ∙ sym b) ∙ ap (refused_with s.rule) c

pub once : (rule : Rule) (At : Place → Type 0) (After : Option Refusal → Type 0) → ((x y : Option Refusal) → After x → After y → x ≡ y) → (x y : Option Refusal) → broken_or rule At After x → broken_or rule At After y → x ≡ y
once rule At After f None None h k = refl
once rule At After f None (Some s) h (inl k) = absurd (h.0 s.place k.1)
once rule At After f None (Some s) h (inr k) = f None (Some s) h.1 k.1
once rule At After f (Some r) None (inl h) k = absurd (k.0 r.place h.1)
once rule At After f (Some r) None (inr h) k = f (Some r) None h.1 k.1
once rule At After f (Some r) (Some s) (inl h) (inl k) = ap Some (same_refusal r s rule h.0 k.0 (alike r.place s.place (k.2 r.place h.1) (h.2 s.place k.1)))
once rule At After f (Some r) (Some s) (inl h) (inr k) = absurd (k.0 r.place h.1)
once rule At After f (Some r) (Some s) (inr h) (inl k) = absurd (h.0 s.place k.1)
once rule At After f (Some r) (Some s) (inr h) (inr k) = f (Some r) (Some s) h.1 k.1

pub kept_once : (x y : Option Refusal) → IsKept x → IsKept y → x ≡ y
kept_once x y h k = cc
