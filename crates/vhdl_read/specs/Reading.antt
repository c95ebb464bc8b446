-- The answers to a text: the design that it spells, or the first of the rules V1 to V8 that it breaks.
use Rattle.std.specs.Prelude.{◌≡◌, ℕ, true, List, Some, Result, Ok, Err}
use Rattle.rw_base.specs.declared.rule.VRule.{VRule}
use Rattle.rw_base.specs.declared.rule.VRule.TheVariants as v
use Rattle.vh_tree.specs.declared.design.Design.{Design}
use Rattle.vh_tree.specs.Text.{all_allowed}
use Rattle.vh_tree.specs.Spelling.{IsSpelled, BreaksBytes, BreaksTokens, BreaksGrammar}
use Rattle.vh_tree.specs.StaticRules.{IsStatic, first_broken}
use Rattle.rw_base.specs.Answers.{VFail}
use Rattle.rw_base.specs.declared.fail.Failure.TheVariants as fail

-- the text breaks this rule of spelling, and none before it
abbrev pub IsBroken : List ℕ → VRule → Type 0
IsBroken bytes v.V1 = BreaksBytes bytes
IsBroken bytes v.V2 = BreaksTokens bytes
IsBroken bytes v.V3 = BreaksGrammar bytes
IsBroken bytes v.V4 = ⊥
IsBroken bytes v.V5 = ⊥
IsBroken bytes v.V6 = ⊥
IsBroken bytes v.V7 = ⊥
IsBroken bytes v.V8 = ⊥

-- a refusal has its cause; memory is asked for only where all bytes are allowed
abbrev pub IsRefusal : List ℕ → VFail → Type 0
IsRefusal bytes (fail.Refused rule) = IsBroken bytes rule
IsRefusal bytes fail.OutOfMemory = all_allowed bytes ≡ true

-- an answer to a text: the design that it spells, or a refusal with its cause
abbrev pub IsAnswer : List ℕ → Result Design VFail → Type 0
IsAnswer bytes (Ok design) = IsSpelled bytes design
IsAnswer bytes (Err e) = IsRefusal bytes e

-- the text spells a design, and this is the first static rule that the design breaks
pub record BreaksStatic (bytes : List ℕ) (rule : VRule) : Type 0 where
  pub design : Design
  pub spelled : IsSpelled bytes design
  pub first : first_broken design ≡ Some rule

-- the first of the rules V1 to V8 that the text breaks
abbrev pub IsFirstBroken : List ℕ → VRule → Type 0
IsFirstBroken bytes v.V1 = BreaksBytes bytes
IsFirstBroken bytes v.V2 = BreaksTokens bytes
IsFirstBroken bytes v.V3 = BreaksGrammar bytes
IsFirstBroken bytes v.V4 = BreaksStatic bytes v.V4
IsFirstBroken bytes v.V5 = BreaksStatic bytes v.V5
IsFirstBroken bytes v.V6 = BreaksStatic bytes v.V6
IsFirstBroken bytes v.V7 = BreaksStatic bytes v.V7
IsFirstBroken bytes v.V8 = BreaksStatic bytes v.V8

-- reading, then the static check: what came of a text, by which of the two said it
pub data IsJudgment (bytes : List ℕ) : Result Design VFail → Type 0 where
  unread : (e : VFail) → IsRefusal bytes e → IsJudgment bytes (Err e)
  kept : (design : Design) → IsSpelled bytes design → IsStatic design → IsJudgment bytes (Ok design)
  broken : (rule : VRule) → BreaksStatic bytes rule → IsJudgment bytes (Err (fail.Refused rule))
  unchecked : (design : Design) → IsSpelled bytes design → IsJudgment bytes (Err fail.OutOfMemory)
