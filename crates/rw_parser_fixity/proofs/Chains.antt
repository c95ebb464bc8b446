-- A chain, one operand and the operator behind it at a time.
use Rattle.std.proofs.Common.{◌≡◌, ◌∙◌, ℕ, suc, zero, ◌+◌, ◌<◌, ◌≤◌, List, [], ◌∷◌, length, drop, map, get_or, Option, Some, None, refl, sym, ap, arith}
use Rattle.std.proofs.lemmas.Grind.{common_steps}
use Rattle.rw_base.specs.declared.place.Span.{Span}
use Rattle.rw_tree.specs.declared.expr.Expr.{Expr}
use Rattle.rw_tree.specs.declared.expr.Expr.TheVariants as expr
use Rattle.rw_parser_reading.specs.Read.{◌>>=◌}
use Rattle.rw_parser_grammar.specs.Chains.{Strength}
use Rattle.rw_parser_chains.specs.Grouping.{Counted, Waiting, settled, closed}
use Rattle.rw_parser_chains.specs.Resolving.{Made, chained, expression_made}
use Rattle.rw_parser_chains.proofs.Streams.{streamed}
use Rattle.rw_parser_chains.proofs.Forms as form
use Rattle.rw_parser_fixity.specs.Nodes.{turned}

all_none : {A B : Type 0} (s : Option A) (f : A → Option B) → ((a : A) → f a ≡ None) → (s >>= f) ≡ None
all_none None f h = refl
all_none (Some a) f h = h a

pub at : {T : Type 0} (xs : List T) (i : ℕ) (x : T) → i < length xs → x ≡ get_or xs i x → drop i xs ≡ x ∷ drop (i + 1) xs
at xs i x l e = grind (arith, common_steps)

pub beyond : {T : Type 0} (xs : List T) (i : ℕ) → length xs ≤ i → drop i xs ≡ []
beyond xs i l = grind (arith, common_steps)

pub none_dropped : {T : Type 0} (xs : List T) → drop 0 xs ≡ xs
none_dropped xs = grind (arith, common_steps)

map_length : {A B : Type 0} (f : A → B) (xs : List A) → length (map f xs) ≡ length xs
map_length f [] = refl
map_length f (x ∷ xs) = ap suc (map_length f xs)

split_at : {T : Type 0} (xs : List T) (i : ℕ) → i < length xs → (x : T) × (drop i xs ≡ x ∷ drop (i + 1) xs)
split_at [] i l = absurd (omega arith)
split_at (x ∷ xs) zero l = (x, refl)
split_at (x ∷ xs) (suc i) l =
    let s : suc i + 1 ≡ suc (i + 1) = omega arith in
    let r = split_at xs i (omega (arith, l)) in
    (r.0, r.1 ∙ ap (λ z. r.0 ∷ drop z (x ∷ xs)) (sym s))

module _ (strength : List ℕ → Strength) where
  -- one operand more than operators, or no tree
  pub uneven : (ws : List Waiting) (os xs : List (Made (Expr Span))) → (length xs ≡ suc (length os) → ⊥) → chained strength ws os xs ≡ None
  unfolding chained
  uneven ws [] [] h = refl
  uneven ws (o ∷ os) [] h = refl
  uneven ws [] (x ∷ []) h = absurd (h refl)
  uneven ws [] (x ∷ y ∷ ys) h = refl
  uneven ws (o ∷ os) (None ∷ xs) h = refl
  uneven ws (None ∷ os) (Some x ∷ xs) h = refl
  uneven ws (Some o ∷ os) (Some x ∷ xs) h =
      all_none (settled strength o ws x) (λ p. chained strength ((p.1, o) ∷ p.0) os xs) (λ p. uneven ((p.1, o) ∷ p.0) os xs (λ e. h (ap suc e)))

  after_turn : (ws : List Waiting) (os xs : List (Made (Expr Span))) (q : Counted) (s : Option (List Waiting × Counted)) (new : List Waiting) → (s >>= (λ p. Some ((p.1, q) ∷ p.0))) ≡ Some new
      → (s >>= (λ p. chained strength ((p.1, q) ∷ p.0) os xs)) ≡ chained strength new os xs
  after_turn ws os xs q None new e = absurd (let f : None ≡ Some new = e in cc)
  after_turn ws os xs q (Some p) new e = let f : (p.1, q) ∷ p.0 ≡ new = cc in ap (λ z. chained strength z os xs) f

  stuck_turn : (ws : List Waiting) (os xs : List (Made (Expr Span))) (q : Counted) (s : Option (List Waiting × Counted)) → (s >>= (λ p. Some ((p.1, q) ∷ p.0))) ≡ None
      → (s >>= (λ p. chained strength ((p.1, q) ∷ p.0) os xs)) ≡ None
  stuck_turn ws os xs q None e = refl
  stuck_turn ws os xs q (Some p) e = absurd (let f : None ≡ Some ((p.1, q) ∷ p.0) = sym e in cc)

  pub no_operand : (ws : List Waiting) (o : Made (Expr Span)) (os : List (Made (Expr Span))) (x : Made (Expr Span)) (xs : List (Made (Expr Span))) → x ≡ None → chained strength ws (o ∷ os) (x ∷ xs) ≡ None
  unfolding chained
  no_operand ws o os x xs e = rw e refl

  pub no_operator : (ws : List Waiting) (o : Made (Expr Span)) (os : List (Made (Expr Span))) (x : Made (Expr Span)) (xs : List (Made (Expr Span))) → o ≡ None → chained strength ws (o ∷ os) (x ∷ xs) ≡ None
  unfolding chained
  no_operator ws o os None xs e = refl
  no_operator ws o os (Some x) xs e = rw e refl

  pub no_turn : (ws : List Waiting) (o : Made (Expr Span)) (os : List (Made (Expr Span))) (x : Made (Expr Span)) (xs : List (Made (Expr Span))) (y q : Counted) → x ≡ Some y → o ≡ Some q → turned strength q ws y ≡ None
      → chained strength ws (o ∷ os) (x ∷ xs) ≡ None
  unfolding chained
  no_turn ws o os x xs y q e f t = rw (e, f) (stuck_turn ws os xs q (settled strength q ws y) t)

  pub one_turn : (ws new : List Waiting) (o : Made (Expr Span)) (os : List (Made (Expr Span))) (x : Made (Expr Span)) (xs : List (Made (Expr Span))) (y q : Counted) → x ≡ Some y → o ≡ Some q → turned strength q ws y ≡ Some new
      → chained strength ws (o ∷ os) (x ∷ xs) ≡ chained strength new os xs
  unfolding chained
  one_turn ws new o os x xs y q e f t = rw (e, f) (after_turn ws os xs q (settled strength q ws y) new t)

  pub last : (ws : List Waiting) (x : Made (Expr Span)) (y : Counted) → x ≡ Some y → chained strength ws [] (x ∷ []) ≡ closed ws y
  unfolding chained
  last ws x y e = rw e refl

  pub no_last : (ws : List Waiting) (x : Made (Expr Span)) → x ≡ None → chained strength ws [] (x ∷ []) ≡ None
  unfolding chained
  no_last ws x e = rw e refl

  -- a chain, by its operands and operators
  pub chain_made : (a : Expr Span) (x : Span) (operands operators xs os : List (Expr Span)) → a ≡ expr.Chain x operands operators → xs ≡ operands → os ≡ operators
      → expression_made strength a ≡ chained strength [] (map (expression_made strength) os) (map (expression_made strength) xs)
  chain_made a x operands operators xs os e f g =
      ap (expression_made strength) e ∙ form.expression-Chain strength x operands operators ∙ sym (streamed strength [] (map (expression_made strength) operators) (map (expression_made strength) operands))
      ∙ ap (λ z. chained strength [] (map (expression_made strength) z) (map (expression_made strength) operands)) (sym g)
      ∙ ap (λ z. chained strength [] (map (expression_made strength) os) (map (expression_made strength) z)) (sym f)

  -- the same at a place of two lists, of which one has one more
  module _ (make : Expr Span → Made (Expr Span)) (operators operands : List (Expr Span)) where
    abbrev pub from : ℕ → List Waiting → Made (Expr Span)
    from i ws = chained strength ws (map make (drop i operators)) (map make (drop i operands))

    pub unpaired : (length operands ≡ length operators + 1 → ⊥) → chained strength [] (map make operators) (map make operands) ≡ None
    unpaired h = uneven [] (map make operators) (map make operands) (λ e. h (let a = map_length make operands in let b = map_length make operators in omega (arith, e, a, b)))

    here : (i : ℕ) (ws : List Waiting) (o x : Expr Span) → i < length operators → length operands ≡ length operators + 1 → drop i operators ≡ o ∷ drop (i + 1) operators → x ≡ get_or operands i x
        → from i ws ≡ chained strength ws (make o ∷ map make (drop (i + 1) operators)) (make x ∷ map make (drop (i + 1) operands))
    here i ws o x l n e f =
        ap (λ z. chained strength ws (map make z) (map make (drop i operands))) e
        ∙ ap (λ z. chained strength ws (make o ∷ map make (drop (i + 1) operators)) (map make z)) (at operands i x (omega (arith, l, n)) f)

    there : (i : ℕ) (ws : List Waiting) (x : Expr Span) → i ≡ length operators → length operands ≡ length operators + 1 → x ≡ get_or operands (length operators) x → from i ws ≡ chained strength ws [] (make x ∷ [])
    there i ws x e n f =
        let g : x ≡ get_or operands i x = f ∙ ap (λ z. get_or operands z x) (sym e) in
        ap (λ z. chained strength ws (map make z) (map make (drop i operands))) (beyond operators i (omega (arith, e)))
        ∙ ap (λ z. chained strength ws [] (map make z)) (at operands i x (omega (arith, e, n)) g)
        ∙ ap (λ z. chained strength ws [] (make x ∷ map make z)) (beyond operands (i + 1) (omega (arith, e, n)))

    module _ (i : ℕ) (ws : List Waiting) (x : Expr Span) (l : i < length operators) (n : length operands ≡ length operators + 1) (f : x ≡ get_or operands i x) where
      pub operand_fails : make x ≡ None → from i ws ≡ None
      operand_fails h =
          let s = split_at operators i l in
          here i ws s.0 x l n s.1 f ∙ no_operand ws (make s.0) (map make (drop (i + 1) operators)) (make x) (map make (drop (i + 1) operands)) h

      module _ (o : Expr Span) (e : o ≡ get_or operators i o) where
        pub operator_fails : make o ≡ None → from i ws ≡ None
        operator_fails h = here i ws o x l n (at operators i o l e) f ∙ no_operator ws (make o) (map make (drop (i + 1) operators)) (make x) (map make (drop (i + 1) operands)) h

        pub turn_fails : (y q : Counted) → make x ≡ Some y → make o ≡ Some q → turned strength q ws y ≡ None → from i ws ≡ None
        turn_fails y q a b h = here i ws o x l n (at operators i o l e) f ∙ no_turn ws (make o) (map make (drop (i + 1) operators)) (make x) (map make (drop (i + 1) operands)) y q a b h

        pub turns : (new : List Waiting) (y q : Counted) → make x ≡ Some y → make o ≡ Some q → turned strength q ws y ≡ Some new → from i ws ≡ from (i + 1) new
        turns new y q a b h = here i ws o x l n (at operators i o l e) f ∙ one_turn ws new (make o) (map make (drop (i + 1) operators)) (make x) (map make (drop (i + 1) operands)) y q a b h

    module _ (i : ℕ) (ws : List Waiting) (x : Expr Span) (e : i ≡ length operators) (n : length operands ≡ length operators + 1) (f : x ≡ get_or operands (length operators) x) where
      pub last_fails : make x ≡ None → from i ws ≡ None
      last_fails h = there i ws x e n f ∙ no_last ws (make x) h

      pub ends : (y : Counted) → make x ≡ Some y → from i ws ≡ closed ws y
      ends y h = there i ws x e n f ∙ last ws (make x) y h
