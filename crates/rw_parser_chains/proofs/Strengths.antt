-- Which operators may stand in whose operands: the two sides exclude each other, and each is handed through.
use Rattle.std.proofs.Common.{◌≡◌, ℕ, nat_lt, nat_eq, Bool, true, false, ◌&&◌, ◌||◌, List, [], ◌∷◌, ◌++◌, refl, sym, ◌∙◌, arith}
use Rattle.std.proofs.lemmas.Bool.Decides.{nat_tests}
use Rattle.std.proofs.lemmas.List.Folds.{list_all-append}
use Rattle.std.specs.List.{list_all}
use Rattle.rw_tree.specs.declared.decl.Side.{Side}
use Rattle.rw_tree.specs.declared.decl.Side.TheVariants as side
use Rattle.rw_parser_grammar.specs.Chains.{Strength, is_left, is_right, groups_left, groups_right}

pub both : (a b : Bool) → (a && b) ≡ true → (a ≡ true) × (b ≡ true)
both true b e = (refl, e)
both false b e = absurd (cc)

pub from_both : (a b : Bool) → a ≡ true → b ≡ true → (a && b) ≡ true
from_both a b e f = rw (e, f) refl

-- tighter, or equal with the side
through : (p q r : ℕ) (a b c : Bool) → (nat_lt q p || (nat_eq p q && (a && b))) ≡ true → (nat_lt r q || (nat_eq q r && (b && c))) ≡ true → (nat_lt r p || (nat_eq p r && (a && c))) ≡ true
through p q r true true true e f = grind (arith, nat_tests)
through p q r true true false e f = grind (arith, nat_tests)
through p q r true false true e f = grind (arith, nat_tests)
through p q r true false false e f = grind (arith, nat_tests)
through p q r false true true e f = grind (arith, nat_tests)
through p q r false true false e f = grind (arith, nat_tests)
through p q r false false true e f = grind (arith, nat_tests)
through p q r false false false e f = grind (arith, nat_tests)

pub left_through : (a b c : Strength) → groups_left a b ≡ true → groups_left b c ≡ true → groups_left a c ≡ true
left_through a b c e f = through a.1 b.1 c.1 (is_left a.0) (is_left b.0) (is_left c.0) e f

pub right_through : (a b c : Strength) → groups_right a b ≡ true → groups_right b c ≡ true → groups_right a c ≡ true
right_through a b c e f = through a.1 b.1 c.1 (is_right a.0) (is_right b.0) (is_right c.0) e f

apart : (m n : ℕ) (a b c d : Bool) → (b && c) ≡ false → (nat_lt n m || (nat_eq m n && (a && b))) ≡ true → (nat_lt m n || (nat_eq n m && (c && d))) ≡ false
apart m n true true c d s e = absurd_c c d s
  where
    absurd_c : (c d : Bool) → (true && c) ≡ false → (nat_lt m n || (nat_eq n m && (c && d))) ≡ false
    absurd_c true d s = absurd (cc)
    absurd_c false d s = grind (arith, nat_tests)
apart m n true false c d s e = grind (arith, nat_tests)
apart m n false b c d s e = grind (arith, nat_tests)

one_side : (a : Side) → (is_right a && is_left a) ≡ false
one_side side.Left = refl
one_side side.Right = refl
one_side side.Neither = refl

-- what may stand on the right of an operator doesn't take it
pub not_left : (a b : Strength) → groups_right a b ≡ true → groups_left b a ≡ false
not_left a b e = apart a.1 b.1 (is_right a.0) (is_right b.0) (is_left b.0) (is_left a.0) (one_side b.0) e

module _ {X : Type 0} (of : X → Strength) where
  pub all_left_through : (os : List X) (b c : Strength) → list_all (λ p. groups_left (of p) b) os ≡ true → groups_left b c ≡ true → list_all (λ p. groups_left (of p) c) os ≡ true
  all_left_through [] b c h e = refl
  all_left_through (o ∷ os) b c h e =
      let p = both (groups_left (of o) b) (list_all (λ p. groups_left (of p) b) os) h in
      from_both (groups_left (of o) c) (list_all (λ p. groups_left (of p) c) os) (left_through (of o) b c p.0 e) (all_left_through os b c p.1 e)

  pub all_right_through : (os : List X) (b c : Strength) → list_all (λ p. groups_right (of p) b) os ≡ true → groups_right b c ≡ true → list_all (λ p. groups_right (of p) c) os ≡ true
  all_right_through [] b c h e = refl
  all_right_through (o ∷ os) b c h e =
      let p = both (groups_right (of o) b) (list_all (λ p. groups_right (of p) b) os) h in
      from_both (groups_right (of o) c) (list_all (λ p. groups_right (of p) c) os) (right_through (of o) b c p.0 e) (all_right_through os b c p.1 e)

-- of the parts of a list, and of a list from its parts
pub all_parts : {X : Type 0} (f : X → Bool) (xs ys : List X) → list_all f (xs ++ ys) ≡ true → (list_all f xs ≡ true) × (list_all f ys ≡ true)
all_parts f xs ys e = both (list_all f xs) (list_all f ys) (sym (list_all-append f xs ys) ∙ e)

pub all_joined : {X : Type 0} (f : X → Bool) (xs ys : List X) → list_all f xs ≡ true → list_all f ys ≡ true → list_all f (xs ++ ys) ≡ true
all_joined f xs ys e h = list_all-append f xs ys ∙ from_both (list_all f xs) (list_all f ys) e h
