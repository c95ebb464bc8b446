-- Lemmas on tests of Bools, of names, and of lists of these.
use Rattle.std.proofs.Common.{◌≡◌, List, [], ◌∷◌, Bool, true, false, not, ◌&&◌, ◌||◌, ◌⊎◌, inl, inr, refl, sym, subst}
use Rattle.std.specs.List.{list_all}
use mathlib.Core.Bool.{true≢false}
use lib.Pointwise.{bytes_decides}
use Rattle.vh_tree.specs.Bits.{Bytes, same_name, is_among}

pub both_left : (a b : Bool) → (a && b) ≡ true → a ≡ true
both_left true b h = refl
both_left false b h = h

pub both_right : (a b : Bool) → (a && b) ≡ true → b ≡ true
both_right true b h = h
both_right false b h = absurd (true≢false (sym h))

pub either_cases : (a b : Bool) → (a || b) ≡ true → (a ≡ true) ⊎ (b ≡ true)
either_cases true b h = inl refl
either_cases false b h = inr h

pub either_left : (a b : Bool) → a ≡ true → (a || b) ≡ true
either_left true b h = refl
either_left false b h = absurd (true≢false (sym h))

pub either_right : (a b : Bool) → b ≡ true → (a || b) ≡ true
either_right true b h = refl
either_right false b h = h

pub not_false : (b : Bool) → not b ≡ false → b ≡ true
not_false true h = refl
not_false false h = absurd (true≢false h)

pub name_self : (x : Bytes) → same_name x x ≡ true
name_self x = (bytes_decides x x).1 refl

pub name_same : (x y : Bytes) → same_name x y ≡ true → x ≡ y
name_same x y h = (bytes_decides x y).0 h

-- what holds of each of these names holds of one that is among them
among_case : (f : Bytes → Bool) (x y : Bytes) (names : List Bytes) → list_all f (y ∷ names) ≡ true → (is_among x names ≡ true → f x ≡ true) → (same_name x y ≡ true) ⊎ (is_among x names ≡ true) → f x ≡ true
among_case f x y names h rest (inl e) = subst (λ z. f z ≡ true) (sym (name_same x y e)) (both_left (f y) (list_all f names) h)
among_case f x y names h rest (inr a) = rest a

pub among_keeps : (f : Bytes → Bool) (x : Bytes) (names : List Bytes) → list_all f names ≡ true → is_among x names ≡ true → f x ≡ true
among_keeps f x [] h a = absurd (true≢false (sym a))
among_keeps f x (y ∷ names) h a = among_case f x y names h (among_keeps f x names (both_right (f y) (list_all f names) h)) (either_cases (same_name x y) (is_among x names) a)

pub name_turned : (x y : Bytes) → same_name x y ≡ true → same_name y x ≡ true
name_turned x y h = subst (λ z. same_name z x ≡ true) (name_same x y h) (name_self x)

pub not_true : (b : Bool) → not b ≡ true → b ≡ false
not_true true h = absurd (true≢false (sym h))
not_true false h = refl

pub both_so : (a b : Bool) → a ≡ true → b ≡ true → (a && b) ≡ true
both_so true b h k = k
both_so false b h k = h
