-- The verdict on what was loaded, and what comes of it.
use Rattle.std.proofs.Common.{◌≡◌, ◌⊎◌, inl, inr, ℕ, List, Option, Some, None, Result, Ok, Err, refl, ap, subst, ◌∙◌}
use Rattle.rw_base.specs.Outside.{Files, IfTold, Loads}
use Rattle.rw_base.specs.declared.rule.Rule.{Rule}
use Rattle.rw_base.specs.declared.place.Place.{Place}
use Rattle.rw_base.specs.Answers.{Fail}
use Rattle.rw_base.specs.declared.fail.Failure.TheVariants as fail
use Rattle.rw_base.specs.declared.fail.Refusal.{Refusal}
use Rattle.rw_base.specs.declared.place.Span.{Span}
use Rattle.rw_tree.specs.Declarations.{PlainProgram}
use Rattle.rw_front.specs.declared.source.Checked.{Checked}
use Rattle.rw_front.specs.Stages.{IsExactAt}
use Rattle.rw_front.specs.Verdict.{Verdict}
use Rattle.rw_front.specs.Fronts.{Fronts}
use Rattle.rewire_top.specs.Commands.{Check}
use Rattle.rewire_top.specs.Answers.{most_of_source, Compiles, IsRefusedAs, CanBeDone}
use Rattle.rewire_top.specs.declared.status.Status.{Status}
use Rattle.rewire_top.specs.declared.status.Status.TheVariants as status
use Rattle.rewire_top.proofs.Loading.{one_load}

-- a fact that is told of some content gives another
told_map : {A : Type 0} (P Q : A → Type 0) (held : Option A) → ((a : A) → P a → Q a) → IfTold P held → IfTold Q held
told_map P Q None make p = tt
told_map P Q (Some a) make p = make a p

refused_with : Rule → Place → Refusal
refused_with rule place = record { rule = rule; place = place }

abbrev rule_in : Rule → Status → Rule
rule_in other (status.Refused rule place) = rule
rule_in other _ = other

abbrev place_in : Place → Status → Place
place_in other (status.Refused rule place) = place
place_in other _ = other

same_refusal : (r : Refusal) (rule : Rule) (place : Place) → status.Refused r.rule r.place ≡ status.Refused rule place → r ≡ refused_with rule place
unfolding refused_with
same_refusal r rule place e = ap (λ x. refused_with x r.place) (ap (rule_in r.rule) e) ∙ ap (refused_with rule) (ap (place_in r.place) e)

-- Ok of the front
pub accepted : (file source : List ℕ) (held : Option Files) (made : Checked) → IfTold (Loads file most_of_source source) held → Fronts source (Ok made) → IfTold (λ files. Compiles (Some (Check file)) files files) held
accepted file source held made loaded (program, verdict, is) = told_map (Loads file most_of_source source) (λ files. Compiles (Some (Check file)) files files) held (λ files l. (source, program, l, verdict)) loaded

-- a refusal of the front
pub refused : (file source : List ℕ) (held : Option Files) (r : Refusal) → IfTold (Loads file most_of_source source) held → Fronts source (Err (fail.Refused r)) → (rule : Rule) (place : Place)
    → status.Refused r.rule r.place ≡ status.Refused rule place → IfTold (λ files. IsRefusedAs (Some (Check file)) files rule place) held
unfolding refused_with
refused file source held r loaded verdict rule place e =
    told_map (Loads file most_of_source source) (λ files. IsRefusedAs (Some (Check file)) files rule place) held
    (λ files l. (source, l, subst (λ (x : Refusal). Verdict source (Err x)) (same_refusal r rule place e) verdict)) loaded

-- what the status says of an answer of the front
abbrev pub status_in : Result Checked Fail → Status
status_in (Ok made) = status.Ok
status_in (Err (fail.Refused r)) = status.Refused r.rule r.place
status_in (Err fail.OutOfMemory) = status.OutOfMemory

pub told_of : {A : Type 0} (P : A → Type 0) (held : Option A) (a : A) → held ≡ Some a → IfTold P held → P a
told_of P held a is p = subst (IfTold P) is p

abbrev is_ok : Result (PlainProgram Span) Refusal → Type 0
is_ok (Ok made) = Unit {0}
is_ok (Err r) = ⊥

abbrev refusal_in : Refusal → Result (PlainProgram Span) Refusal → Refusal
refusal_in other (Ok made) = other
refusal_in other (Err r) = r

answered : (source : List ℕ) → IsExactAt Verdict source → (given : Result Checked Fail) → Fronts source given → (rule : Rule) (place : Place) → Verdict source (Err (record { rule = rule; place = place }))
    → (status_in given ≡ status.Refused rule place) ⊎ (status_in given ≡ status.OutOfMemory)
answered source one (Ok made) (program, verdict, is) rule place v = absurd (subst is_ok (one (Ok program) (Err (record { rule = rule; place = place })) verdict v) tt)
answered source one (Err (fail.Refused r)) verdict rule place v =
    let same : r ≡ record { rule = rule; place = place } = ap (refusal_in r) (one (Err r) (Err (record { rule = rule; place = place })) verdict v) in
    inl (ap (λ (x : Refusal). status.Refused x.rule x.place) same)
answered source one (Err fail.OutOfMemory) verdict rule place v = inr refl

-- where the source that was loaded is refused, that is the status
pub exactly : (file source : List ℕ) (held : Option Files) → IfTold (Loads file most_of_source source) held → ((bytes : List ℕ) → IsExactAt Verdict bytes) → (given : Result Checked Fail) → Fronts source given
    → (files : Files) (rule : Rule) (place : Place) → held ≡ Some files → IsRefusedAs (Some (Check file)) files rule place
    → (status_in given ≡ status.Refused rule place) ⊎ (status_in given ≡ status.ReadFault) ⊎ (status_in given ≡ status.OutOfMemory)
exactly file source held loaded one given fronts files rule place is (other, loads, verdict) =
    let same : other ≡ source = one_load file most_of_source other source files loads (told_of (Loads file most_of_source source) held files is loaded) in
    elim (answered source (one source) given fronts rule place (subst (λ (s : List ℕ). Verdict s (Err (record { rule = rule; place = place }))) same verdict)) [ inl e ↦ inl e | inr e ↦ inr (inr e) ]

-- a source that breaks no rule isn't refused
pub never_refused : {X : Type 0} (file source : List ℕ) (held : Option Files) → IfTold (Loads file most_of_source source) held → ((bytes : List ℕ) → IsExactAt Verdict bytes) → (r : Refusal) → Fronts source (Err (fail.Refused r))
    → (files : Files) → held ≡ Some files → CanBeDone (Some (Check file)) files → X
never_refused file source held loaded one r verdict files is (other, program, loads, accepted) =
    let same : other ≡ source = one_load file most_of_source other source files loads (told_of (Loads file most_of_source source) held files is loaded) in
    absurd (subst is_ok (one source (Ok program) (Err r) (subst (λ (s : List ℕ). Verdict s (Ok program)) same accepted) verdict) tt)
