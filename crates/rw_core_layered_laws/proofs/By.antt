-- What the first has, if anything, the second has as f sees it; so with rows that are tried.
use Rattle.std.proofs.Common.{◌≡◌, refl, zero, suc, Bool, true, false, if◌then◌else◌, Option, Some, None}
use Rattle.std.specs.Option.{IfSome}
use Rattle.rw_core.specs.Values.{Val, val}
use Rattle.rw_core.specs.Options.{◌>>=◌, Grows}
use Rattle.rw_meaning.specs.Options.{Tried, stuck, passed_over, taken, and_try, or_try, tried, what_is_taken}
use Rattle.rw_core_flat.specs.Meaning.{Answer, a_value, as_value, if_holds}

abbrev pub By : {A B : Type 0} → (A → B) → Option A → Option B → Type 0
By f x y = IfSome x (λ a. y ≡ Some (f a))

abbrev pub same : {A : Type 0} → A → A
same a = a

pub by_same : {A : Type 0} (x : Option A) → By same x x
by_same None = tt
by_same (Some a) = refl

pub by_on : {A B C D : Type 0} (f : A → B) (g : C → D) (x : Option A) (y : Option B) (k : A → Option C) (l : B → Option D) → By f x y → ((a : A) → By g (k a) (l (f a))) → By g (x >>= k) (y >>= l)
by_on f g None y k l h next = tt
by_on f g (Some a) y k l h next = rw h (next a)

pub by_grow : {A B : Type 0} (f : A → B) (x : Option A) (y z : Option B) → By f x y → Grows y z → By f x z
by_grow f None y z h k = tt
by_grow f (Some a) y z h k = following (f a) y z h k
  where
    following : {C : Type 0} (b : C) (y z : Option C) → y ≡ Some b → Grows y z → z ≡ Some b
    following b None z e k = absurd (cc)
    following b (Some c) z e k = cc

pub by_value : (x : Option Val) (y : Option Answer) → By a_value x y → By same x (y >>= as_value)
by_value None y h = tt
by_value (Some v) y h = rw h refl

pub by_if : {A B : Type 0} (f : A → B) (c : Bool) (x : Option A) (y : Option B) → By f x y → By f (if c then x else None) (if c then y else None)
by_if f true x y h = h
by_if f false x y h = tt

-- == Rows ==

abbrev pub Goes : {A B : Type 0} → (A → B) → Tried A → Tried B → Type 0
Goes f stuck y = Unit {0}
Goes f passed_over y = y ≡ passed_over
Goes f (taken a) y = y ≡ taken (f a)

pub goes_same : {A : Type 0} (x : Tried A) → Goes same x x
goes_same stuck = tt
goes_same passed_over = refl
goes_same (taken a) = refl

pub goes_try : {A B C D : Type 0} (f : A → B) (g : C → D) (x : Tried A) (y : Tried B) (k : A → Tried C) (l : B → Tried D) → Goes f x y → ((a : A) → Goes g (k a) (l (f a))) → Goes g (and_try x k) (and_try y l)
goes_try f g stuck y k l h next = tt
goes_try f g passed_over y k l h next = rw h refl
goes_try f g (taken a) y k l h next = rw h (next a)

pub goes_or : {A B : Type 0} (f : A → B) (x z : Tried A) (y w : Tried B) → Goes f x y → Goes f z w → Goes f (or_try x z) (or_try y w)
goes_or f stuck z y w h k = tt
goes_or f passed_over z y w h k = rw h k
goes_or f (taken a) z y w h k = rw h refl

pub goes_tried : {A B : Type 0} (f : A → B) (x : Option A) (y : Option B) → By f x y → Goes f (tried x) (tried y)
goes_tried f None y h = tt
goes_tried f (Some a) y h = rw h refl

pub by_taken : {A B : Type 0} (f : A → B) (x : Tried A) (y : Tried B) → Goes f x y → By f (what_is_taken x) (what_is_taken y)
by_taken f stuck y h = tt
by_taken f passed_over y h = tt
by_taken f (taken a) y h = rw h refl

pub goes_holds : {A B : Type 0} (f : A → B) (v : Val) (x z : Tried A) (y w : Tried B) → Goes f x y → Goes f z w → Goes f (if_holds v x z stuck) (if_holds v y w stuck)
goes_holds f (val zero fields) x z y w h k = k
goes_holds f (val (suc zero) fields) x z y w h k = h
goes_holds f (val (suc (suc n)) fields) x z y w h k = tt
