-- What holds of what is tried, whichever way it goes.
use Rattle.std.proofs.Common.{Option, Some, None}
use Rattle.std.specs.Option.{IfSome}
use Rattle.rw_meaning.specs.Options.{Tried, stuck, passed_over, taken, and_try, or_try, tried, what_is_taken, Whichever}

pub whichever_map : {A : Type 0} (P others : Type 0) (Q R : A → Type 0) (x : Tried A) → (P → others) → ((a : A) → Q a → R a) → Whichever x P Q → Whichever x others R
whichever_map P others Q R stuck p q h = tt
whichever_map P others Q R passed_over p q h = p h
whichever_map P others Q R (taken a) p q h = q a h

pub whichever_on : {A B : Type 0} (P others : Type 0) (Q : A → Type 0) (R : B → Type 0) (x : Tried A) (f : A → Tried B) → Whichever x P Q → (P → others) → ((a : A) → Q a → Whichever (f a) others R)
    → Whichever (and_try x f) others R
whichever_on P others Q R stuck f h p k = tt
whichever_on P others Q R passed_over f h p k = p h
whichever_on P others Q R (taken a) f h p k = k a h

pub whichever_tried : {A : Type 0} (P : Type 0) (Q : A → Type 0) (x : Option A) → IfSome x Q → Whichever (tried x) P Q
whichever_tried P Q None h = tt
whichever_tried P Q (Some a) h = h

pub if_taken : {A : Type 0} (P : Type 0) (Q : A → Type 0) (x : Tried A) → Whichever x P Q → IfSome (what_is_taken x) Q
if_taken P Q stuck h = tt
if_taken P Q passed_over h = tt
if_taken P Q (taken a) h = h

-- the first of two that is taken: what is said of the second may use that the first is passed over
pub whichever_or : {A : Type 0} (P second both : Type 0) (Q R all : A → Type 0) (x y : Tried A) → Whichever x P Q → (P → Whichever y second R) → ((a : A) → Q a → all a) → (P → second → both)
    → ((a : A) → P → R a → all a) → Whichever (or_try x y) both all
whichever_or P second both Q R all stuck y h k q p r = tt
whichever_or P second both Q R all passed_over y h k q p r = whichever_map second both R all y (p h) (λ a. r a h) (k h)
whichever_or P second both Q R all (taken a) y h k q p r = q a h
