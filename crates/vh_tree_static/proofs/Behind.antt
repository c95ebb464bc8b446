-- Names behind names that are distinct.
use Rattle.std.proofs.Common.{◌≡◌, Bool, true, false, not, List, [], ◌∷◌, ◌++◌, refl, sym, ap, ◌∙◌}
use Rattle.std.specs.Prelude.{◌&&◌, ◌||◌}
use Rattle.std.specs.List.{list_all}
use Rattle.vh_tree.specs.Bits.{Bytes, is_among, same_name}
use Rattle.vh_tree.specs.StaticRules.{are_distinct}
use Rattle.rw_base_tables.proofs.Same.{swapped}

or_along : (a b c : Bool) → (a || (b || c)) ≡ ((a || b) || c)
or_along true b c = refl
or_along false b c = refl

and_true : (b : Bool) → (b && true) ≡ b
and_true true = refl
and_true false = refl

either : (x : Bytes) (xs ys : List Bytes) → is_among x (xs ++ ys) ≡ (is_among x xs || is_among x ys)
either x [] ys = refl
either x (y ∷ xs) ys = ap (λ b. same_name x y || b) (either x xs ys) ∙ or_along (same_name x y) (is_among x xs) (is_among x ys)

-- none of these is among those
abbrev none : List Bytes → List Bytes → Bool
none xs ys = list_all (λ y. not (is_among y xs)) ys

none_at_all : (ys : List Bytes) → none [] ys ≡ true
none_at_all [] = refl
none_at_all (y ∷ ys) = none_at_all ys

exchanged : (a b c d : Bool) → (not (a || b) && (not c && d)) ≡ (not (a || c) && (not b && d))
exchanged true b c d = refl
exchanged false true true d = refl
exchanged false true false d = refl
exchanged false false true d = refl
exchanged false false false d = refl

one_more : (x : Bytes) (xs ys : List Bytes) → (not (is_among x ys) && none xs ys) ≡ none (x ∷ xs) ys
one_more x xs [] = refl
one_more x xs (y ∷ ys) =
    exchanged (same_name x y) (is_among x ys) (is_among y xs) (none xs ys) ∙ ap (λ b. not (same_name x y || is_among y xs) && b) (one_more x xs ys)
    ∙ ap (λ b. not (b || is_among y xs) && none (x ∷ xs) ys) (swapped x y)

shared : (a b c d e : Bool) → (not (a || b) && (c && (d && e))) ≡ ((not a && c) && (d && (not b && e)))
shared true b c d e = refl
shared false true true true e = refl
shared false true true false e = refl
shared false true false d e = refl
shared false false c d e = refl

pub distinct_behind : (xs ys : List Bytes) → are_distinct (xs ++ ys) ≡ (are_distinct xs && (are_distinct ys && none xs ys))
distinct_behind [] ys = sym (ap (λ b. are_distinct ys && b) (none_at_all ys) ∙ and_true (are_distinct ys))
distinct_behind (x ∷ xs) ys =
    ap (λ b. not b && are_distinct (xs ++ ys)) (either x xs ys) ∙ ap (λ b. not (is_among x xs || is_among x ys) && b) (distinct_behind xs ys)
    ∙ shared (is_among x xs) (is_among x ys) (are_distinct xs) (are_distinct ys) (none xs ys)
    ∙ ap (λ b. (not (is_among x xs) && are_distinct xs) && (are_distinct ys && b)) (one_more x xs ys)
