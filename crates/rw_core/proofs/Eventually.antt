-- What follows from what holds from some budget on.
use Rattle.std.proofs.Common.{◌≡◌, ℕ, zero, suc, ◌+◌, ◌≤◌, Option, Some, None, refl, subst, arith}
use Rattle.std.specs.Option.{IfSome}
use Rattle.rw_core.specs.Options.{◌>>=◌}
use Rattle.rw_core.specs.Eventually.{Eventually, Reaches, GrowsInTime}

pub always : {P : ℕ → Type 0} → ((n : ℕ) → P n) → Eventually P
always h = record { from = 0; holds = λ n k. h n }

pub mapped : {P Q : ℕ → Type 0} → ((n : ℕ) → P n → Q n) → Eventually P → Eventually Q
mapped h e = record { from = e.from; holds = λ n k. h n (e.holds n k) }

pub mapped_two : {P Q R : ℕ → Type 0} → ((n : ℕ) → P n → Q n → R n) → Eventually P → Eventually Q → Eventually R
mapped_two h e f = record { from = e.from + f.from; holds = λ n k. h n (e.holds n (omega arith)) (f.holds n (omega arith)) }

after : (P : ℕ → Type 0) (from : ℕ) → ((n : ℕ) → from ≤ n → P (suc n)) → (n : ℕ) → suc from ≤ n → P n
after P from h zero k = absurd (omega arith)
after P from h (suc n) k = h n (omega arith)

-- what holds of each budget of one more
pub later : (P : ℕ → Type 0) → Eventually (λ n. P (suc n)) → Eventually P
later P e = record { from = suc e.from; holds = after P e.from e.holds }

pub sooner : (P : ℕ → Type 0) → Eventually P → Eventually (λ n. P (suc n))
sooner P e = record { from = e.from; holds = λ n k. e.holds (suc n) (omega arith) }

same_some : {A : Type 0} (x : Option A) (a b : A) → x ≡ Some a → x ≡ Some b → a ≡ b
same_some x a b e h = cc

-- one result at most is reached
pub reached_once : {A : Type 0} (within : ℕ → Option A) (a b : A) → Reaches within a → Reaches within b → a ≡ b
reached_once within a b e f = same_some (within (e.from + f.from)) a b (e.holds (e.from + f.from) (omega arith)) (f.holds (e.from + f.from) (omega arith))

-- == If there is a result ==

pub if_on : {A B : Type 0} (P : A → Type 0) (Q : B → Type 0) (x : Option A) (f : A → Option B) → IfSome x P → ((a : A) → P a → IfSome (f a) Q) → IfSome (x >>= f) Q
if_on P Q None f h k = tt
if_on P Q (Some a) f h k = k a h

pub if_map : {A : Type 0} (P Q : A → Type 0) (x : Option A) → ((a : A) → P a → Q a) → IfSome x P → IfSome x Q
if_map P Q None k h = tt
if_map P Q (Some a) k h = k a h

-- what the first gives is reached
pub if_reached : {A : Type 0} (x : Option A) (within : ℕ → Option A) (a : A) → GrowsInTime x within → x ≡ Some a → Reaches within a
if_reached None within a h e = absurd (cc)
if_reached (Some b) within a h e = let k : b ≡ a = cc in subst (Reaches within) k h

then_it : {A B : Type 0} (x : Option A) (f : A → Option B) (a : A) (b : B) → x ≡ Some a → f a ≡ Some b → (x >>= f) ≡ Some b
then_it x f a b e h = rw e h

-- what depends on no budget
pub grows_in_time : {A : Type 0} (x : Option A) → GrowsInTime x (λ n. x)
grows_in_time None = tt
grows_in_time (Some x) = always (λ n. refl)

pub in_time_on : {A B : Type 0} (x : Option A) (y : ℕ → Option A) (f : A → Option B) (g : ℕ → A → Option B) → GrowsInTime x y → ((a : A) → GrowsInTime (f a) (λ n. g n a)) → GrowsInTime (x >>= f) (λ n. y n >>= g n)
in_time_on x y f g h k =
    if_on (Reaches y) (Reaches (λ n. y n >>= g n)) x f h
    (λ a e. if_map (Reaches (λ n. g n a)) (Reaches (λ n. y n >>= g n)) (f a) (λ b i. mapped_two (λ n i j. then_it (y n) (g n) a b i j) e i) (k a))
