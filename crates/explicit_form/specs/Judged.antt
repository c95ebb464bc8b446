-- What the calls that judge names promise each other.
use Rattle.std.specs.Prelude.{ℕ, Bool, true, false, List, ◌≡◌, Result, Ok, Err}
use Rattle.rw_base.specs.Answers.{Unread}
use Rattle.rw_base.specs.declared.fail.Failure.TheVariants as fail
use Rattle.explicit_form.specs.declared.taken.Kind.{Kind}
use Rattle.explicit_form.specs.declared.taken.Kind.TheVariants.{Data, Constructor, Function}
use Rattle.explicit_form.specs.Fit.{taken_types, taken_constructors, taken_functions}

-- the names that no declaration of this kind has
abbrev pub taken_of : Kind → List (List ℕ)
taken_of Data = taken_types
taken_of Constructor = taken_constructors
taken_of Function = taken_functions

-- a refusal has its cause; nothing is said where memory ran out
abbrev pub Refuses : Unread → Bool → Type 0
Refuses (fail.Refused r) fits = fits ≡ false
Refuses fail.OutOfMemory fits = Unit {0}

-- the call finds a value exactly where the test passes, and the value is right, unless memory ran out
abbrev pub Judges : {A : Type 0} → Result A Unread → Bool → (A → Type 0) → Type 0
Judges (Ok a) fits IsRight = (fits ≡ true) × IsRight a
Judges (Err e) fits IsRight = Refuses e fits
