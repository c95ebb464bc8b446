-- Making each operand and operator in turn, and grouping at once, is making all of them and grouping then.
use Rattle.std.proofs.Common.{◌≡◌, ◌∙◌, ℕ, List, [], ◌∷◌, Option, Some, None, refl, sym}
use Rattle.rw_base.specs.declared.place.Span.{Span}
use Rattle.rw_tree.specs.declared.expr.Expr.{Expr}
use Rattle.rw_parser_reading.specs.Read.{◌>>=◌}
use Rattle.rw_parser_grammar.specs.Chains.{Strength}
use Rattle.rw_parser_chains.specs.Grouping.{Counted, Waiting, settled, grouped_from}
use Rattle.rw_parser_chains.specs.Resolving.{Made, each_of, chained}

same_after : {A B : Type 0} (s : Option A) (f g : A → Option B) → ((a : A) → f a ≡ g a) → (s >>= f) ≡ (s >>= g)
same_after None f g h = refl
same_after (Some a) f g h = h a

abbrev nothing : {A B : Type 0} → A → Option B
nothing a = None

none_after : {A B : Type 0} (s : Option A) → (s >>= nothing {A = A} {B = B}) ≡ None
none_after None = refl
none_after (Some a) = refl

module _ (strength : List ℕ → Strength) where
  no_operand : (ws : List Waiting) (r : Option (List Counted)) → (r >>= (λ q. grouped_from strength ws q [])) ≡ None
  unfolding grouped_from
  no_operand ws None = refl
  no_operand ws (Some []) = refl
  no_operand ws (Some (q ∷ qs)) = refl

  two_left : (ws : List Waiting) (x y : Counted) (r : Option (List Counted)) → (((r >>= (λ q. Some (y ∷ q))) >>= (λ q. Some (x ∷ q))) >>= (λ p. grouped_from strength ws [] p)) ≡ None
  unfolding grouped_from
  two_left ws x y None = refl
  two_left ws x y (Some q) = refl

  one_turn : (ws : List Waiting) (x o : Counted) (a b : Option (List Counted))
      → ((a >>= (λ q. Some (x ∷ q))) >>= (λ p. (b >>= (λ q. Some (o ∷ q))) >>= (λ q. grouped_from strength ws q p)))
      ≡ (settled strength o ws x >>= (λ s. a >>= (λ p. b >>= (λ q. grouped_from strength ((s.1, o) ∷ s.0) q p))))
  unfolding grouped_from
  one_turn ws x o None b = sym (none_after (settled strength o ws x))
  one_turn ws x o (Some p) None = sym (none_after (settled strength o ws x))
  one_turn ws x o (Some p) (Some q) = refl

  pub streamed : (ws : List Waiting) (os xs : List (Made (Expr Span))) → chained strength ws os xs ≡ (each_of xs >>= (λ p. each_of os >>= (λ q. grouped_from strength ws q p)))
  unfolding chained each_of grouped_from
  streamed ws [] [] = refl
  streamed ws (o ∷ os) [] = sym (no_operand ws (each_of (o ∷ os)))
  streamed ws [] (None ∷ []) = refl
  streamed ws [] (Some x ∷ []) = refl
  streamed ws [] (None ∷ y ∷ ys) = refl
  streamed ws [] (Some x ∷ None ∷ ys) = refl
  streamed ws [] (Some x ∷ Some y ∷ ys) = sym (two_left ws x y (each_of ys))
  streamed ws (o ∷ os) (None ∷ xs) = refl
  streamed ws (None ∷ os) (Some x ∷ xs) = sym (none_after (each_of xs >>= (λ q. Some (x ∷ q))))
  streamed ws (Some o ∷ os) (Some x ∷ xs) =
      same_after (settled strength o ws x) (λ s. chained strength ((s.1, o) ∷ s.0) os xs) (λ s. each_of xs >>= (λ p. each_of os >>= (λ q. grouped_from strength ((s.1, o) ∷ s.0) q p)))
      (λ s. streamed ((s.1, o) ∷ s.0) os xs)
      ∙ sym (one_turn ws x o (each_of xs) (each_of os))
