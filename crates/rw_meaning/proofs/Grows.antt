-- Whatever has a result keeps it: what this means of options and of rows that are tried.
use Rattle.std.proofs.Common.{◌≡◌, zero, suc, Bool, true, false, if◌then◌else◌, Option, Some, None, refl}
use Rattle.rw_core.specs.Options.{Grows}
use Rattle.rw_meaning.specs.Options.{Tried, stuck, passed_over, taken, and_try, or_try, tried, what_is_taken}
use Rattle.rw_meaning.specs.Results.{Outcome, datum, waiting_for_more, action}
use Rattle.rw_meaning.specs.Evaluation.{if_true}

-- a row that isn't stuck stays what it is
abbrev pub Keeps : {A : Type 0} → Tried A → Tried A → Type 0
Keeps stuck later = Unit {0}
Keeps passed_over later = later ≡ passed_over
Keeps (taken x) later = later ≡ taken x

pub keeps_same : {A : Type 0} (x : Tried A) → Keeps x x
keeps_same stuck = tt
keeps_same passed_over = refl
keeps_same (taken x) = refl

pub keeps_on : {A B : Type 0} (x later : Tried A) (f g : A → Tried B) → Keeps x later → ((a : A) → Keeps (f a) (g a)) → Keeps (and_try x f) (and_try later g)
keeps_on stuck later f g h k = tt
keeps_on passed_over later f g h k = rw h
keeps_on (taken x) later f g h k = rw h (k x)

pub keeps_or : {A : Type 0} (x later y other : Tried A) → Keeps x later → Keeps y other → Keeps (or_try x y) (or_try later other)
keeps_or stuck later y other h k = tt
keeps_or passed_over later y other h k = rw h k
keeps_or (taken x) later y other h k = rw h

pub keeps_tried : {A : Type 0} (x later : Option A) → Grows x later → Keeps (tried x) (tried later)
keeps_tried None later h = tt
keeps_tried (Some x) later h = rw h

pub grows_taken : {A : Type 0} (x later : Tried A) → Keeps x later → Grows (what_is_taken x) (what_is_taken later)
grows_taken stuck later h = tt
grows_taken passed_over later h = tt
grows_taken (taken x) later h = rw h

pub grows_if : {A : Type 0} (c : Bool) (x later y other : Option A) → Grows x later → Grows y other → Grows (if c then x else y) (if c then later else other)
grows_if true x later y other h k = h
grows_if false x later y other h k = k

pub keeps_if : {A : Type 0} (c : Bool) (x later y other : Tried A) → Keeps x later → Keeps y other → Keeps (if c then x else y) (if c then later else other)
keeps_if true x later y other h k = h
keeps_if false x later y other h k = k

pub keeps_truth : {A : Type 0} (r : Outcome) (x later y other : Tried A) → Keeps x later → Keeps y other → Keeps (if_true r x y stuck) (if_true r later other stuck)
keeps_truth (datum zero fields) x later y other h k = k
keeps_truth (datum (suc zero) fields) x later y other h k = h
keeps_truth (datum (suc (suc n)) fields) x later y other h k = tt
keeps_truth (waiting_for_more f ts) x later y other h k = tt
keeps_truth (action o ts) x later y other h k = tt

pub grows_truth : {A : Type 0} (r : Outcome) (x later y other : Option A) → Grows x later → Grows y other → Grows (if_true r x y None) (if_true r later other None)
grows_truth (datum zero fields) x later y other h k = k
grows_truth (datum (suc zero) fields) x later y other h k = h
grows_truth (datum (suc (suc n)) fields) x later y other h k = tt
grows_truth (waiting_for_more f ts) x later y other h k = tt
grows_truth (action o ts) x later y other h k = tt
