-- What a judgment says of a text: the only design, or the only rule, that it may have.
use Rattle.std.proofs.Common.{◌≡◌, ◌↔◌, ℕ, Bool, true, false, true≢false, List, Option, Some, None, Result, Ok, Err, IfOk, sym, ap, subst, ◌∙◌, refl, inl, inr, if◌then◌else◌}
use Rattle.rw_base.specs.declared.rule.VRule.{VRule}
use Rattle.rw_base.specs.declared.rule.VRule.TheVariants as v
use Rattle.vh_tree.specs.declared.design.Design.{Design}
use Rattle.vh_tree.specs.Text.{all_allowed}
use Rattle.vh_tree.specs.Spelling.{IsSpelled, BreaksBytes, BreaksTokens, BreaksGrammar}
use Rattle.vh_tree.specs.Spellable.{IsSpellable}
use Rattle.vh_tree.specs.Canonical.{canonical_text}
use Rattle.vh_tree.specs.StaticRules.{IsStatic, first_broken, breaks_names, breaks_widths, breaks_drivers, breaks_order, breaks_ports}
use Rattle.rw_base.specs.Answers.{VFail}
use Rattle.rw_base.specs.declared.fail.Failure.TheVariants as fail
use Rattle.rw_base.specs.Answers.{IsUnlessMemory}
use Rattle.vhdl_read.specs.Reading.{IsRefusal, BreaksStatic, IsFirstBroken, IsJudgment, unread, kept, broken, unchecked}
use Rattle.vhdl_read.proofs.Answering.{TokensAreScanned, not_both, answer_spelled, answer_bytes, answer_tokens, answer_grammar}

-- the laws of `vh_tree` that are used beside that of tokens
abbrev pub OneDesign : Type 0
OneDesign = (bytes : List ℕ) (a b : Design) → IsSpelled bytes a → IsSpelled bytes b → a ≡ b

abbrev pub FirstBroken : Type 0
FirstBroken = (d : Design) → (first_broken d ≡ None) ↔ IsStatic d

-- ---- the first static rule is one of V4 to V8

abbrev is_late : Option VRule → Bool
is_late None = true
is_late (Some v.V1) = false
is_late (Some v.V2) = false
is_late (Some v.V3) = false
is_late (Some v.V4) = true
is_late (Some v.V5) = true
is_late (Some v.V6) = true
is_late (Some v.V7) = true
is_late (Some v.V8) = true

late_choice : (b : Bool) (rule : VRule) (rest : Option VRule) → is_late (Some rule) ≡ true → is_late rest ≡ true → is_late (if b then Some rule else rest) ≡ true
late_choice true rule rest e f = e
late_choice false rule rest e f = f

first_is_late : (d : Design) → is_late (first_broken d) ≡ true
first_is_late d =
    late_choice (breaks_names d) v.V4 _ refl
    (late_choice (breaks_widths d) v.V5 _ refl
    (late_choice (breaks_drivers d) v.V6 _ refl
    (late_choice (breaks_order d) v.V7 _ refl
    (late_choice (breaks_ports d) v.V8 None refl refl))))

rule_is_late : (bytes : List ℕ) (rule : VRule) → BreaksStatic bytes rule → is_late (Some rule) ≡ true
rule_is_late bytes rule b = sym (ap is_late b.first) ∙ first_is_late b.design

-- ---- what a result names

abbrev error_of : {T : Type 0} → VFail → Result T VFail → VFail
error_of e (Ok x) = e
error_of e (Err f) = f

abbrev rule_of : VRule → VFail → VRule
rule_of a (fail.Refused rule) = rule
rule_of a fail.OutOfMemory = a

abbrev rule_in : VRule → Option VRule → VRule
rule_in a None = a
rule_in a (Some rule) = rule

abbrev refused_of : VRule → Result Design VFail → VRule
refused_of a r = rule_of a (error_of (fail.Refused a) r)

abbrev failed : VFail → Result Design VFail
failed e = Err e

same_refused : (a b : VRule) → failed (fail.Refused a) ≡ failed (fail.Refused b) → a ≡ b
same_refused a b e = ap (refused_of a) e

same_rule : (a b : VRule) → Some a ≡ Some b → a ≡ b
same_rule a b e = ap (rule_in a) e

-- ---- a rule that is named is the first

refused_first : (bytes : List ℕ) (rule : VRule) → IsRefusal bytes (fail.Refused rule) → IsFirstBroken bytes rule
refused_first bytes v.V1 a = a
refused_first bytes v.V2 a = a
refused_first bytes v.V3 a = a
refused_first bytes v.V4 a = absurd a
refused_first bytes v.V5 a = absurd a
refused_first bytes v.V6 a = absurd a
refused_first bytes v.V7 a = absurd a
refused_first bytes v.V8 a = absurd a

static_first : (bytes : List ℕ) (rule : VRule) → BreaksStatic bytes rule → IsFirstBroken bytes rule
static_first bytes v.V1 b = absurd (true≢false (sym (rule_is_late bytes v.V1 b)))
static_first bytes v.V2 b = absurd (true≢false (sym (rule_is_late bytes v.V2 b)))
static_first bytes v.V3 b = absurd (true≢false (sym (rule_is_late bytes v.V3 b)))
static_first bytes v.V4 b = b
static_first bytes v.V5 b = b
static_first bytes v.V6 b = b
static_first bytes v.V7 b = b
static_first bytes v.V8 b = b

pub judged_refused : (bytes : List ℕ) (r : Result Design VFail) → IsJudgment bytes r → (rule : VRule) → r ≡ Err (fail.Refused rule) → IsFirstBroken bytes rule
judged_refused bytes _ (unread (fail.Refused named) a) rule e = subst (IsFirstBroken bytes) (same_refused named rule e) (refused_first bytes named a)
judged_refused bytes _ (unread fail.OutOfMemory a) rule e = absurd (cc)
judged_refused bytes _ (kept d s k) rule e = absurd (cc)
judged_refused bytes _ (broken named b) rule e = subst (IsFirstBroken bytes) (same_refused named rule e) (static_first bytes named b)
judged_refused bytes _ (unchecked d s) rule e = absurd (cc)

pub judged_ok : (bytes : List ℕ) (r : Result Design VFail) → IsJudgment bytes r → IfOk r (λ design. IsSpelled bytes design × IsStatic design)
judged_ok bytes _ (unread e a) = tt
judged_ok bytes _ (kept d s k) = (s, k)
judged_ok bytes _ (broken named b) = tt
judged_ok bytes _ (unchecked d s) = tt

pub judged_memory : (bytes : List ℕ) (r : Result Design VFail) → IsJudgment bytes r → r ≡ Err fail.OutOfMemory → all_allowed bytes ≡ true
judged_memory bytes _ (unread (fail.Refused named) a) e = absurd (cc)
judged_memory bytes _ (unread fail.OutOfMemory a) e = a
judged_memory bytes _ (kept d s k) e = absurd (cc)
judged_memory bytes _ (broken named b) e = absurd (cc)
judged_memory bytes _ (unchecked d s) e = s.allowed

-- ---- what the check says of a design that is spelled

check_failed : (bytes : List ℕ) (design : Design) → IsSpelled bytes design → (e : VFail) → ((rule : VRule) → e ≡ fail.Refused rule → first_broken design ≡ Some rule) → IsJudgment bytes (Err e)
check_failed bytes design s (fail.Refused rule) f = broken rule (record { design = design; spelled = s; first = f rule refl })
check_failed bytes design s fail.OutOfMemory f = unchecked design s

pub judged_unchecked : (bytes : List ℕ) (design : Design) → IsSpelled bytes design → (e : VFail) (r : Result (Unit {0}) VFail) → r ≡ Err e
    → ((rule : VRule) → r ≡ Err (fail.Refused rule) → first_broken design ≡ Some rule) → IsJudgment bytes (Err e)
judged_unchecked bytes design s e r is f = check_failed bytes design s e (λ rule h. f rule (is ∙ ap Err h))

-- ---- what is spelled and static is read

not_static : FirstBroken → (d : Design) (rule : VRule) → IsStatic d → first_broken d ≡ Some rule → ⊥
not_static law d rule k e = let n : None ≡ Some rule = sym ((law d).1 k) ∙ e in cc

pub judged_spelled : OneDesign → TokensAreScanned → FirstBroken
    → (bytes : List ℕ) (r : Result Design VFail) → IsJudgment bytes r → (design : Design) → IsSpelled bytes design → IsStatic design → IsUnlessMemory (Ok design) r
judged_spelled one scan law bytes _ (unread e a) design s k = answer_spelled one scan bytes (Err e) a design s
judged_spelled one scan law bytes _ (kept d u m) design s k = inl (ap Ok (one bytes d design u s))
judged_spelled one scan law bytes _ (broken rule b) design s k = absurd (not_static law design rule k (sym (ap first_broken (one bytes b.design design b.spelled s)) ∙ b.first))
judged_spelled one scan law bytes _ (unchecked d u) design s k = inr refl

-- ---- the first rule that is broken is named

never_read : (e : VFail) (design : Design) → IsUnlessMemory (Err e) (Ok design) → ⊥
never_read e design (inl h) = cc
never_read e design (inr h) = cc

not_bytes : (bytes : List ℕ) (design : Design) → IsSpelled bytes design → BreaksBytes bytes → ⊥
not_bytes bytes design s b = not_both bytes s.allowed b

not_tokens : (bytes : List ℕ) (design : Design) → IsSpelled bytes design → BreaksTokens bytes → ⊥
not_tokens bytes design s b = never_read _ design (answer_tokens bytes (Ok design) s b)

not_grammar : TokensAreScanned → (bytes : List ℕ) (design : Design) → IsSpelled bytes design → BreaksGrammar bytes → ⊥
not_grammar scan bytes design s b = never_read _ design (answer_grammar scan bytes (Ok design) s b)

pub judged_bytes : (bytes : List ℕ) (r : Result Design VFail) → IsJudgment bytes r → BreaksBytes bytes → r ≡ Err (fail.Refused v.V1)
judged_bytes bytes _ (unread e a) b = answer_bytes bytes (Err e) a b
judged_bytes bytes _ (kept d s k) b = absurd (not_bytes bytes d s b)
judged_bytes bytes _ (broken rule c) b = absurd (not_bytes bytes c.design c.spelled b)
judged_bytes bytes _ (unchecked d s) b = absurd (not_bytes bytes d s b)

judged_tokens : (bytes : List ℕ) (r : Result Design VFail) → IsJudgment bytes r → BreaksTokens bytes → IsUnlessMemory (Err (fail.Refused v.V2)) r
judged_tokens bytes _ (unread e a) b = answer_tokens bytes (Err e) a b
judged_tokens bytes _ (kept d s k) b = absurd (not_tokens bytes d s b)
judged_tokens bytes _ (broken rule c) b = absurd (not_tokens bytes c.design c.spelled b)
judged_tokens bytes _ (unchecked d s) b = inr refl

judged_grammar : TokensAreScanned → (bytes : List ℕ) (r : Result Design VFail) → IsJudgment bytes r → BreaksGrammar bytes → IsUnlessMemory (Err (fail.Refused v.V3)) r
judged_grammar scan bytes _ (unread e a) b = answer_grammar scan bytes (Err e) a b
judged_grammar scan bytes _ (kept d s k) b = absurd (not_grammar scan bytes d s b)
judged_grammar scan bytes _ (broken rule c) b = absurd (not_grammar scan bytes c.design c.spelled b)
judged_grammar scan bytes _ (unchecked d s) b = inr refl

no_design : (e : VFail) (design : Design) → IsUnlessMemory (Ok design) (Err e) → e ≡ fail.OutOfMemory
no_design e design (inl h) = absurd (cc)
no_design e design (inr h) = ap (error_of e) h

judged_static : OneDesign → TokensAreScanned → FirstBroken
    → (bytes : List ℕ) (r : Result Design VFail) → IsJudgment bytes r → (rule : VRule) → BreaksStatic bytes rule → IsUnlessMemory (Err (fail.Refused rule)) r
judged_static one scan law bytes _ (unread e a) rule b = inr (ap Err (no_design e b.design (answer_spelled one scan bytes (Err e) a b.design b.spelled)))
judged_static one scan law bytes _ (kept d s k) rule b = absurd (not_static law d rule k (ap first_broken (one bytes d b.design s b.spelled) ∙ b.first))
judged_static one scan law bytes _ (broken named c) rule b =
    inl (ap (λ x. Err (fail.Refused x)) (same_rule named rule (sym c.first ∙ (ap first_broken (one bytes c.design b.design c.spelled b.spelled) ∙ b.first))))
judged_static one scan law bytes _ (unchecked d s) rule b = inr refl

pub judged_broken : OneDesign → TokensAreScanned → FirstBroken
    → (bytes : List ℕ) (r : Result Design VFail) → IsJudgment bytes r → (rule : VRule) → IsFirstBroken bytes rule → IsUnlessMemory (Err (fail.Refused rule)) r
judged_broken one scan law bytes r j v.V1 b = inl (judged_bytes bytes r j b)
judged_broken one scan law bytes r j v.V2 b = judged_tokens bytes r j b
judged_broken one scan law bytes r j v.V3 b = judged_grammar scan bytes r j b
judged_broken one scan law bytes r j v.V4 b = judged_static one scan law bytes r j v.V4 b
judged_broken one scan law bytes r j v.V5 b = judged_static one scan law bytes r j v.V5 b
judged_broken one scan law bytes r j v.V6 b = judged_static one scan law bytes r j v.V6 b
judged_broken one scan law bytes r j v.V7 b = judged_static one scan law bytes r j v.V7 b
judged_broken one scan law bytes r j v.V8 b = judged_static one scan law bytes r j v.V8 b

-- ---- the canonical text of a design is read as that design

pub judged_canonical : OneDesign → TokensAreScanned → FirstBroken → ((design : Design) → IsSpellable design → IsSpelled (canonical_text design) design)
    → (bytes : List ℕ) (r : Result Design VFail) → IsJudgment bytes r → (design : Design) → IsSpellable design → IsStatic design → bytes ≡ canonical_text design → IsUnlessMemory (Ok design) r
judged_canonical one scan law spells bytes r j design f k e = judged_spelled one scan law bytes r j design (rw e (spells design f)) k
