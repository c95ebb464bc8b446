-- Of two stages, one after the other, each has an answer.
use Rattle.std.proofs.Common.{◌≡◌, inl, inr, Option, Some, None, Ok, Err, refl}
use Rattle.rw_base.specs.declared.place.Span.{Span}
use Rattle.rw_base.specs.declared.fail.Refusal.{Refusal}
use Rattle.rw_tree.specs.Declarations.{PlainProgram}
use Rattle.rw_front.specs.Stages.{Stage, ◌then◌}
use Rattle.rw_front.specs.Verdict.{reported, Keeps}
use Rattle.rw_front_laws.specs.Total.{IsTotalAt}

-- what the second makes of what the first made
behind : {A B C : Type 0} (Is : Stage A B) (Becomes : Stage B C) (given : A) (between : B) → Is given (Ok between) → IsTotalAt Becomes between → IsTotalAt (Is then Becomes) given
behind Is Becomes given between p (Ok made, q) = (Ok made, (between, p, q))
behind Is Becomes given between p (Err refusal, q) = (Err refusal, inr (between, p, q))

pub then_total : {A B C : Type 0} (Is : Stage A B) (Becomes : Stage B C) (given : A) → IsTotalAt Is given → ((between : B) → Is given (Ok between) → IsTotalAt Becomes between)
    → IsTotalAt (Is then Becomes) given
then_total Is Becomes given (Ok between, p) next = behind Is Becomes given between p (next between p)
then_total Is Becomes given (Err refusal, p) next = (Err refusal, inl p)

-- a rule that says something of a program
pub keeps_total : (Is : PlainProgram Span → Option Refusal → Type 0) (program : PlainProgram Span) → (broken : Option Refusal) × Is program broken → IsTotalAt (Keeps Is) program
keeps_total Is program (None, p) = (Ok program, (refl, p))
keeps_total Is program (Some broken, p) = (Err (reported program broken), (broken, refl, p))
