-- What a call answers, unless memory runs out: the words of all contracts on calls that may refuse or run out of memory.
-- Of want of memory they say nothing.
use Rattle.std.specs.Prelude.{◌≡◌, ◌⊎◌, Option, Some, None, Result, Ok, Err}
use Rattle.rw_base.specs.declared.rule.VRule.{VRule}
use Rattle.rw_base.specs.declared.fail.NotSpelled.{NotSpelled}
use Rattle.rw_base.specs.declared.fail.Refusal.{Refusal}
use Rattle.rw_base.specs.declared.fail.Failure.{Failure}
use Rattle.rw_base.specs.declared.fail.Failure.TheVariants.{Refused, OutOfMemory}

-- why a call of the front gives no answer
abbrev pub Fail : Type 0
Fail = Failure Refusal

-- why a design or a text isn't taken
abbrev pub VFail : Type 0
VFail = Failure VRule

-- why a reader gives nothing
abbrev pub Unread : Type 0
Unread = Failure NotSpelled

-- a call refuses only where there is nothing to be found
abbrev pub Fails : {Y R : Type 0} → Failure R → Option Y → Type 0
Fails OutOfMemory found = Unit {0}
Fails (Refused r) found = found ≡ None

-- what a call gives, seen by view, is what there is to be found, and it refuses where there is nothing
abbrev pub Gives : {X Y R : Type 0} → (X → Y) → Result X (Failure R) → Option Y → Type 0
Gives view (Ok x) found = found ≡ Some (view x)
Gives view (Err e) found = Fails e found

-- what a call gives, seen by view, or how it refuses, is this
abbrev pub Answers : {X Y R : Type 0} → (X → Y) → Result X (Failure R) → Result Y R → Type 0
Answers view (Ok x) found = found ≡ Ok (view x)
Answers view (Err (Refused r)) found = found ≡ Err r
Answers view (Err OutOfMemory) found = Unit {0}

-- a call answers Ok where nothing is refused, and else refuses by this
abbrev pub IsJudged : {A R : Type 0} → Option R → Result A (Failure R) → Type 0
IsJudged found (Ok a) = found ≡ None
IsJudged found (Err (Refused r)) = found ≡ Some r
IsJudged found (Err OutOfMemory) = Unit {0}

-- what is given is this answer, or memory ran out
abbrev pub IsUnlessMemory : {A R : Type 0} → Result A (Failure R) → Result A (Failure R) → Type 0
IsUnlessMemory answer given = (given ≡ answer) ⊎ (given ≡ Err OutOfMemory)
