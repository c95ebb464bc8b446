-- What is tried: it may have no result, and it may be passed over.
use Rattle.std.specs.Prelude.{Option, Some, None}

-- a row that is tried: it has no result, or it is passed over, or this is what is taken
pub data Tried (A : Type 0) : Type 0 where
  stuck : Tried A
  passed_over : Tried A
  taken : A → Tried A

-- go on with what is taken
abbrev pub and_try : {A B : Type 0} → Tried A → (A → Tried B) → Tried B
and_try stuck f = stuck
and_try passed_over f = passed_over
and_try (taken x) f = f x

-- the next one where this one is passed over
abbrev pub or_try : {A : Type 0} → Tried A → Tried A → Tried A
or_try stuck next = stuck
or_try passed_over next = next
or_try (taken x) next = taken x

-- no result is stuck, and a result is taken
abbrev pub tried : {A : Type 0} → Option A → Tried A
tried None = stuck
tried (Some x) = taken x

-- what is taken, if anything is
abbrev pub what_is_taken : {A : Type 0} → Tried A → Option A
what_is_taken stuck = None
what_is_taken passed_over = None
what_is_taken (taken x) = Some x

-- of what is tried: P where it is passed over, and Q of what is taken
abbrev pub Whichever : {A : Type 0} → Tried A → Type 0 → (A → Type 0) → Type 0
Whichever stuck P Q = Unit {0}
Whichever passed_over P Q = P
Whichever (taken x) P Q = Q x
