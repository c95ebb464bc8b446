-- Stages: what each makes of what it is given, or which rule is broken there, and stages one after the other.
use Rattle.std.specs.Prelude.{◌≡◌, ◌⊎◌, Result, Ok, Err}
use Rattle.rw_base.specs.Answers.{Fail}
use Rattle.rw_base.specs.declared.fail.Failure.TheVariants as fail
use Rattle.rw_base.specs.declared.fail.Refusal.{Refusal}

-- what a stage makes of a thing, or how it refuses it
abbrev pub Stage : Type 0 → Type 0 → Type 1
Stage A B = A → Result B Refusal → Type 0

-- one stage, then another of what it makes: a refusal of the first is one of both
infixr 20 ◌then◌
abbrev pub ◌then◌ : {A B C : Type 0} → Stage A B → Stage B C → Stage A C
(Is then Becomes) given (Err refusal) = Is given (Err refusal) ⊎ ((between : _) × Is given (Ok between) × Becomes between (Err refusal))
(Is then Becomes) given (Ok made) = (between : _) × Is given (Ok between) × Becomes between (Ok made)

-- of this thing a stage makes one thing, or refuses it in one way
abbrev pub IsExactAt : {A B : Type 0} → Stage A B → A → Type 0
IsExactAt {A} {B} Is given = (made other : Result B Refusal) → Is given made → Is given other → made ≡ other

-- what is answered, with this seen of it, is what the stage makes or how it refuses; where memory ran out nothing is said
abbrev pub AnswersBy : {A B X : Type 0} → Stage A B → (X → B) → A → Result X Fail → Type 0
AnswersBy Is see given (Ok made) = Is given (Ok (see made))
AnswersBy Is see given (Err (fail.Refused refusal)) = Is given (Err refusal)
AnswersBy Is see given (Err fail.OutOfMemory) = Unit {0}
