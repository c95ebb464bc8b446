-- An answer that says what was found is the answer to what is so.
use Rattle.std.proofs.Common.{◌≡◌, inl, inr, Option, Some, None, Result, Ok, Err, IsOk, IsErrOf, refl, sym, ap, ◌∙◌}
use Rattle.rw_base.specs.declared.rule.VRule.{VRule}
use Rattle.rw_base.specs.declared.fail.Failure.TheVariants as fail
use Rattle.rw_base.specs.Answers.{VFail, IsUnlessMemory}
use Rattle.vh_tree.specs.declared.design.Design.{Design}
use Rattle.vh_tree.specs.StaticRules.{IsStatic, first_broken}

none_broken : (d : Design) → IsStatic d → first_broken d ≡ None
none_broken d s = rw (s.names, s.widths, s.drivers, s.order, s.ports) refl

abbrev Answer : Type 0
Answer = Result (Unit {0}) VFail

pub kept_answer : (d : Design) (r : Answer) → ((rule : VRule) → IsErrOf r (fail.Refused rule) → first_broken d ≡ Some rule) → IsStatic d → IsUnlessMemory (Ok tt) r
kept_answer d (Ok u) h s = inl refl
kept_answer d (Err (fail.Refused rule)) h s = let e : None ≡ Some rule = sym (none_broken d s) ∙ h rule refl in absurd (cc)
kept_answer d (Err fail.OutOfMemory) h s = inr refl

abbrev rule_of : VRule → Option VRule → VRule
rule_of other None = other
rule_of other (Some rule) = rule

pub broken_answer : (d : Design) (r : Answer) → (IsOk r → IsStatic d) → ((rule : VRule) → IsErrOf r (fail.Refused rule) → first_broken d ≡ Some rule) → (rule : VRule) → first_broken d ≡ Some rule
    → IsUnlessMemory (Err (fail.Refused rule)) r
broken_answer d (Ok u) ok h rule b = let e : None ≡ Some rule = sym (none_broken d (ok refl)) ∙ b in absurd (cc)
broken_answer d (Err (fail.Refused named)) ok h rule b = inl (ap (λ x. Err (fail.Refused x)) (ap (rule_of rule) (sym (h named refl) ∙ b)))
broken_answer d (Err fail.OutOfMemory) ok h rule b = inr refl
