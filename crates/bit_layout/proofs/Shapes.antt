-- The width of a type comes from those of its fields.
use Rattle.std.proofs.Common.{◌≡◌, ℕ, zero, suc, ◌+◌, ◌<◌, ◌≤◌, max, List, [], ◌∷◌, ◌++◌, length, map, get_or, refl, subst, arith, ap}
use Rattle.std.specs.Prelude.{sum_by, slice_index_or, All}
use Rattle.std.proofs.lemmas.List.Elements.{All-cons, All-push}
use Rattle.std.proofs.lemmas.List.Sums.{sum_by-cons}
use Rattle.rw_core.specs.declared.types.DataTy.{DataTy}
use Rattle.rw_core.specs.Bits.{constructors_of, fields_of, IsTable, tag_width, greatest, shape_width, width_within, width_of}

-- of a list, its first element and the others
pub all_head : {X : Type 0} (P : X → Type 0) (x : X) (xs : List X) → All P (x ∷ xs) → P x
all_head P x xs h = h 0 x (omega arith)

pub all_tail : {X : Type 0} (P : X → Type 0) (x : X) (xs : List X) → All P (x ∷ xs) → All P xs
all_tail P x xs h k d low = h (suc k) d (omega arith)

-- widths that agree on the fields give equal sums
pub sum_by-same : (f g : ℕ → ℕ) (fields : List ℕ) → All (λ x. f x ≡ g x) fields → sum_by f fields ≡ sum_by g fields
sum_by-same f g [] h = refl
sum_by-same f g (x ∷ xs) h = let here : f x ≡ g x = all_head (λ x. f x ≡ g x) x xs h in let r = sum_by-same f g xs (all_tail (λ x. f x ≡ g x) x xs h) in omega (arith, sum_by-cons f x xs, sum_by-cons g x xs)

pub map_sums-same : (f g : ℕ → ℕ) (shape : List (List ℕ)) → ((tag : ℕ) → All (λ x. f x ≡ g x) (slice_index_or shape tag [])) → map (sum_by f) shape ≡ map (sum_by g) shape
map_sums-same f g [] h = refl
map_sums-same f g (fields ∷ shape) h =
    let head = sum_by-same f g fields (h 0) in let tail = map_sums-same f g shape (λ tag. h (suc tag)) in cc

pub shape_width-same : (f g : ℕ → ℕ) (shape : List (List ℕ)) → ((tag : ℕ) → All (λ x. f x ≡ g x) (slice_index_or shape tag [])) → shape_width f shape ≡ shape_width g shape
shape_width-same f g shape h = ap (λ sums. max 1 (tag_width (length shape) + greatest sums)) (map_sums-same f g shape h)

-- what holds of each number below a bound holds of each number of a list below it
pub All-below : (P : ℕ → Type 0) (n : ℕ) (fields : List ℕ) → All (λ x. x < n) fields → ((x : ℕ) → x < n → P x) → All P fields
All-below P n fields low h k d within = h (get_or fields k d) (low k d within)

-- more depth than the type's number changes nothing
pub width_within-same : (types : List DataTy) → IsTable types → (n m ty : ℕ) → ty < n → ty < m → width_within types n ty ≡ width_within types m ty
unfolding width_within
width_within-same types table zero m ty h g = absurd (omega arith)
width_within-same types table (suc n) zero ty h g = absurd (omega arith)
width_within-same types table (suc n) (suc m) ty h g =
    shape_width-same (width_within types n) (width_within types m) (constructors_of types ty)
    (λ tag. All-below (λ x. width_within types n x ≡ width_within types m x) ty (fields_of types ty tag) (table.earlier ty tag) (λ x low. width_within-same types table n m x (omega arith) (omega arith)))

pub width_of-step : (types : List DataTy) → IsTable types → (ty : ℕ) → width_of types ty ≡ shape_width (width_of types) (constructors_of types ty)
unfolding width_within
width_of-step types table ty =
    shape_width-same (width_within types ty) (width_of types) (constructors_of types ty)
    (λ tag. All-below (λ x. width_within types ty x ≡ width_of types x) ty (fields_of types ty tag) (table.earlier ty tag) (λ x low. width_within-same types table ty (suc x) x low (omega arith)))

-- the fields of one constructor are no longer than the greatest sum
pub greatest-sum : (f : ℕ → ℕ) (shape : List (List ℕ)) (tag : ℕ) → sum_by f (slice_index_or shape tag []) ≤ greatest (map (sum_by f) shape)
greatest-sum f [] tag = omega arith
greatest-sum f (fields ∷ shape) zero = omega arith
greatest-sum f (fields ∷ shape) (suc tag) = let h = greatest-sum f shape tag in omega arith

-- a tag and the fields of one constructor fit the type's width
pub fields_fit : (types : List DataTy) → IsTable types → (ty tag : ℕ) → tag_width (length (constructors_of types ty)) + sum_by (width_of types) (fields_of types ty tag) ≤ width_of types ty
fields_fit types table ty tag =
    let e = width_of-step types table ty in
    let h = greatest-sum (width_of types) (constructors_of types ty) tag in omega arith

pub width_of-positive : (types : List DataTy) → IsTable types → (ty : ℕ) → 1 ≤ width_of types ty
width_of-positive types table ty = let e = width_of-step types table ty in omega arith

-- of a list with one more element at its end: the front, the last, and the whole
pub all_front : {X : Type 0} (P : X → Type 0) (all xs : List X) (x : X) → all ≡ xs ++ x ∷ [] → All P all → All P xs
all_front P all [] x e h = λ k d low. absurd (omega arith)
all_front P all (y ∷ xs) x e h = let r : All P (y ∷ (xs ++ x ∷ [])) = subst (All P) e h in All-cons P y xs (all_head P y (xs ++ x ∷ []) r) (all_front P (xs ++ x ∷ []) xs x refl (all_tail P y (xs ++ x ∷ []) r))

pub all_last : {X : Type 0} (P : X → Type 0) (all xs : List X) (x : X) → all ≡ xs ++ x ∷ [] → All P all → P x
all_last P all [] x e h = let r : All P (x ∷ []) = subst (All P) e h in all_head P x [] r
all_last P all (y ∷ xs) x e h = let r : All P (y ∷ (xs ++ x ∷ [])) = subst (All P) e h in all_last P (xs ++ x ∷ []) xs x refl (all_tail P y (xs ++ x ∷ []) r)

pub all_more : {X : Type 0} (P : X → Type 0) (all xs : List X) (x : X) → all ≡ xs ++ x ∷ [] → All P xs → P x → All P all
all_more P all xs x e h g = rw e (All-push P xs x h g)
