-- What may have no result.
use Rattle.std.specs.Prelude.{◌≡◌, List, [], ◌∷◌, Option, Some, None}
use Rattle.std.specs.Option.{IfSome}

-- go on with the result, if there is one
infixl 10 ◌>>=◌
abbrev pub ◌>>=◌ : {A B : Type 0} → Option A → (A → Option B) → Option B
None >>= f = None
(Some x) >>= f = f x

-- each of a list, or nothing where one has none
abbrev pub each : {A B : Type 0} → (A → Option B) → List A → Option (List B)
each f [] = Some []
each f (x ∷ xs) = do y ← f x; ys ← each f xs; Some (y ∷ ys)

-- what the first gives, if anything, the second gives too
abbrev pub Grows : {A : Type 0} → Option A → Option A → Type 0
Grows first second = IfSome first (λ x. second ≡ Some x)
