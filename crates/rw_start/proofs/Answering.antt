-- Answers that hold, and what is refused before anything else is asked.
use Rattle.std.proofs.Common.{Option, Some, None, Result, Ok, Err, IfOk}
use Rattle.rw_base.specs.declared.place.Place.{Place}
use Rattle.rw_base.specs.declared.rule.Rule.{Rule}
use Rattle.rw_base.specs.Answers.{Fail}
use Rattle.rw_base.specs.declared.fail.Failure.TheVariants as fail
use Rattle.rw_base.specs.declared.fail.Refusal.{Refusal}
use Rattle.rw_scope_rules.specs.Verdict.{broken_first}
use Rattle.rw_base.specs.Answers.{IsJudged}

pub on_ok : {A E : Type 0} {P Q : A → Type 0} (r : Result A E) → ((x : A) → P x → Q x) → IfOk r P → IfOk r Q
on_ok (Ok x) f h = f x h
on_ok (Err e) f h = h

-- a rule that is broken is the answer, whatever comes after it
pub refused_first : (A : Type 0) (rule : Rule) (place : Option Place) (after : Option Refusal) (e : Fail) → IsJudged {A = A} (broken_first rule place None) (Err e) → IsJudged {A = A} (broken_first rule place after) (Err e)
refused_first A rule None after (fail.Refused refusal) h = absurd (cc)
refused_first A rule (Some place) after (fail.Refused refusal) h = h
refused_first A rule place after fail.OutOfMemory h = tt
