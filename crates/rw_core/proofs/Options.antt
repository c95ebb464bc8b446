-- What keeps its result, step by step.
use Rattle.std.proofs.Common.{◌≡◌, suc, List, [], ◌∷◌, length, Option, Some, None, refl, ap}
use Rattle.rw_core.specs.Options.{◌>>=◌, each, Grows}

pub grows_same : {A : Type 0} (x : Option A) → Grows x x
grows_same None = tt
grows_same (Some x) = refl

pub grows_on : {A B : Type 0} (x later : Option A) (f g : A → Option B) → Grows x later → ((a : A) → Grows (f a) (g a)) → Grows (x >>= f) (later >>= g)
grows_on None later f g h k = tt
grows_on (Some x) later f g h k = rw h (k x)

pub grows_each : {A B : Type 0} (f g : A → Option B) → ((a : A) → Grows (f a) (g a)) → (xs : List A) → Grows (each f xs) (each g xs)
grows_each f g h [] = refl
grows_each f g h (x ∷ xs) = grows_on _ _ _ _ (h x) (λ y. grows_on _ _ _ _ (grows_each f g h xs) (λ ys. refl))

-- what is given first, and what is made of it
pub bind_some : {A B : Type 0} (x : Option A) (f : A → Option B) (b : B) → (x >>= f) ≡ Some b → (a : A) × (x ≡ Some a) × (f a ≡ Some b)
bind_some None f b e = absurd (cc)
bind_some (Some a) f b e = (a, refl, e)

pub some_on : {A B : Type 0} (x : Option A) (f : A → Option B) (a : A) (y : Option B) → x ≡ Some a → f a ≡ y → (x >>= f) ≡ y
some_on x f a y e h = rw e h

-- each of a list makes a list of its length
pub length-each : {A B : Type 0} (f : A → Option B) (xs : List A) (ys : List B) → each f xs ≡ Some ys → length ys ≡ length xs
length-each f [] ys e = let k : ys ≡ [] = cc in rw k refl
length-each f (x ∷ xs) ys e =
    let y = bind_some (f x) _ ys e in
    let rest = bind_some (each f xs) _ ys y.2 in
    let k : ys ≡ y.0 ∷ rest.0 = cc in
    rw k (ap suc (length-each f xs rest.0 rest.1))
