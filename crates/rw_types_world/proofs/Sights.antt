-- Names in order of first sight.
use Rattle.std.proofs.Common.{◌≡◌, ℕ, ◌+◌, ◌<◌, length, drop, get_or, Bool, true, false, ◌||◌, List, [], ◌∷◌, ◌++◌, append-nil, append_assoc, refl, sym, ap, ◌∙◌, if◌then◌else◌}
use Rattle.rw_tree.specs.declared.types.Written.{Written}
use Rattle.rw_tree.specs.Types.{written, writtens, type_parts}
use Rattle.rw_scope_rules.specs.Names.{Bytes, same_name, is_among}
use Rattle.rw_scope_rules.specs.Scope.{type_variables, types_variables}
use Rattle.rw_types_rules.specs.Written.{first_sights}
use Rattle.rw_types_equations.proofs.Rows.{drop_next}
use Rattle.rw_types_world.specs.Sights.{with_name, seen_after}

pub seen_in_turn : (names xs ys : List Bytes) → seen_after names (xs ++ ys) ≡ seen_after (seen_after names xs) ys
seen_in_turn names [] ys = refl
seen_in_turn names (x ∷ xs) ys = seen_in_turn (with_name names x) xs ys

or_false : (b : Bool) → (b || false) ≡ b
or_false true = refl
or_false false = refl

or_further : (a b c d : Bool) → b ≡ (c || d) → (a || b) ≡ ((a || c) || d)
or_further true b c d e = refl
or_further false b c d e = e

or_swapped : (a b : Bool) → (a || b) ≡ (b || a)
or_swapped true true = refl
or_swapped true false = refl
or_swapped false true = refl
or_swapped false false = refl

among_last : (x y : Bytes) (names : List Bytes) → is_among x (names ++ y ∷ []) ≡ (is_among x names || same_name x y)
among_last x y [] = or_false (same_name x y)
among_last x y (n ∷ ns) = or_further (same_name x n) (is_among x (ns ++ y ∷ [])) (is_among x ns) (same_name x y) (among_last x y ns)

among_as : (x : Bytes) (names seen : List Bytes) → ((y : Bytes) → is_among y names ≡ is_among y seen) → (y : Bytes) → is_among y (names ++ x ∷ []) ≡ is_among y (x ∷ seen)
among_as x names seen h y = among_last y x names ∙ ap (λ b. b || same_name y x) (h y) ∙ or_swapped (is_among y seen) (same_name y x)

one_sight : (b : Bool) (x : Bytes) (xs names seen : List Bytes) → is_among x names ≡ b → seen_after names xs ≡ names ++ first_sights seen xs
    → seen_after (names ++ x ∷ []) xs ≡ (names ++ x ∷ []) ++ first_sights (x ∷ seen) xs
    → seen_after (with_name names x) xs ≡ names ++ (if b then first_sights seen xs else x ∷ first_sights (x ∷ seen) xs)
one_sight true x xs names seen e known new = ap (λ b. seen_after (if b then names else names ++ x ∷ []) xs) e ∙ known
one_sight false x xs names seen e known new = ap (λ b. seen_after (if b then names else names ++ x ∷ []) xs) e ∙ new ∙ append_assoc names (x ∷ []) (first_sights (x ∷ seen) xs)

sights_behind : (xs names seen : List Bytes) → ((y : Bytes) → is_among y names ≡ is_among y seen) → seen_after names xs ≡ names ++ first_sights seen xs
sights_behind [] names seen h = sym (append-nil names)
sights_behind (x ∷ xs) names seen h = one_sight (is_among x seen) x xs names seen (h x) (sights_behind xs names seen h) (sights_behind xs (names ++ x ∷ []) (x ∷ seen) (among_as x names seen h))

pub first_seen : (xs : List Bytes) → seen_after [] xs ≡ first_sights [] xs
first_seen xs = sights_behind xs [] [] (λ x. refl)

pub all_seen : (names : List Bytes) (xs : List Bytes) → names ≡ [] → seen_after names xs ≡ first_sights [] xs
all_seen names xs e = ap (λ n. seen_after n xs) e ∙ first_seen xs

-- the variables of one type more
pub one_type_seen : (names new : List Bytes) (t : Written) (ts : List Written) (i : ℕ) (whole : List Bytes) → i < length ts → t ≡ get_or ts i t → new ≡ seen_after names (type_variables (written t))
    → seen_after names (types_variables (type_parts (writtens (drop i ts)))) ≡ whole → seen_after new (types_variables (type_parts (writtens (drop (i + 1) ts)))) ≡ whole
one_type_seen names new t ts i whole l e put h =
    ap (λ n. seen_after n (types_variables (type_parts (writtens (drop (i + 1) ts))))) put
    ∙ sym (seen_in_turn names (type_variables (written t)) (types_variables (type_parts (writtens (drop (i + 1) ts)))))
    ∙ ap (λ z. seen_after names (types_variables (type_parts (writtens z)))) (sym (drop_next ts i (i + 1) t l refl e)) ∙ h
