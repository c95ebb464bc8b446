-- A data type that leads to itself in however many steps does so in as many as there are data types.
use Rattle.std.proofs.Common.{◌≡◌, ◌⊎◌, inl, inr, ℕ, zero, suc, ◌+◌, ◌<◌, ◌≤◌, Bool, true, false, ◌||◌, List, [], ◌∷◌, ◌++◌, length, flat_map, Option, Some, None, refl, sym, ap, ◌∙◌, if◌then◌else◌, arith}
use Rattle.std.proofs.lemmas.List.Folds.{list_any-append}
use Rattle.rw_scope_rules.specs.Names.{Bytes, same_name, is_among, first_named}
use Rattle.rw_scope_rules.specs.Kinds.{mentioned_by, reached, is_recursive}
use Rattle.rw_scope_rules.proofs.Basics.{true_or_false, clash, one_name, same_is, In}

abbrev Types : Type 0
Types = List (Bytes × List Bytes)

or_left : (a b : Bool) → a ≡ true → (a || b) ≡ true
or_left a b e = ap (λ c. c || b) e

or_right : (a b : Bool) → b ≡ true → (a || b) ≡ true
or_right true b e = refl
or_right false b e = e

either : (a b : Bool) → (a || b) ≡ true → (a ≡ true) ⊎ (b ≡ true)
either true b e = inl refl
either false b e = inr e

in_left : (x : Bytes) (xs ys : List Bytes) → is_among x xs ≡ true → is_among x (xs ++ ys) ≡ true
in_left x xs ys h = list_any-append (same_name x) xs ys ∙ or_left (is_among x xs) (is_among x ys) h

in_right : (x : Bytes) (xs ys : List Bytes) → is_among x ys ≡ true → is_among x (xs ++ ys) ≡ true
in_right x xs ys h = list_any-append (same_name x) xs ys ∙ or_right (is_among x xs) (is_among x ys) h

in_parts : (x : Bytes) (xs ys : List Bytes) → is_among x (xs ++ ys) ≡ true → (is_among x xs ≡ true) ⊎ (is_among x ys ≡ true)
in_parts x xs ys h = either (is_among x xs) (is_among x ys) (sym (list_any-append (same_name x) xs ys) ∙ h)

-- how many pass a test
abbrev one_if : Bool → ℕ
one_if true = 1
one_if false = 0

abbrev count : ((Bytes × List Bytes) → Bool) → Types → ℕ
count p [] = 0
count p (t ∷ ts) = one_if (p t) + count p ts

one_or_none : (b : Bool) → one_if b ≤ 1
one_or_none true = omega arith
one_or_none false = omega arith

count_few : (p : (Bytes × List Bytes) → Bool) (ts : Types) → count p ts ≤ length ts
count_few p [] = omega arith
count_few p (t ∷ ts) = let h = count_few p ts in let k = one_or_none (p t) in omega (arith, h, k)

-- where all are counted, each passes
count_full : (p : (Bytes × List Bytes) → Bool) (ts : Types) → length ts ≤ count p ts → (t : Bytes × List Bytes) → In t ts → p t ≡ true
count_full p [] l t i = absurd i
count_full p (u ∷ us) l t i =
    let one = one_or_none (p u) in
    let few = count_few p us in
    elim (true_or_false (p u)) [
      | inl f ↦ elim i [ inl s ↦ ap p s ∙ f | inr r ↦ count_full p us (omega (arith, l, one)) t r ]
      | inr f ↦ let none : one_if (p u) ≡ 0 = ap one_if f in absurd (omega (arith, l, none, few))
    ]

module _ (p q : (Bytes × List Bytes) → Bool) (more : (t : Bytes × List Bytes) → p t ≡ true → q t ≡ true) where
  one_more : (t : Bytes × List Bytes) → one_if (p t) ≤ one_if (q t)
  one_more t = elim (true_or_false (p t)) [
    | inl f ↦ let a : one_if (p t) ≡ 1 = ap one_if f in let b : one_if (q t) ≡ 1 = ap one_if (more t f) in omega (arith, a, b)
    | inr f ↦ let a : one_if (p t) ≡ 0 = ap one_if f in omega (arith, a)
  ]

  count_more : (ts : Types) → count p ts ≤ count q ts
  count_more [] = omega arith
  count_more (t ∷ ts) = let a = one_more t in let b = count_more ts in omega (arith, a, b)

  -- where no more are counted, no more pass
  count_same : (ts : Types) → count q ts ≤ count p ts → (t : Bytes × List Bytes) → In t ts → q t ≡ true → p t ≡ true
  count_same [] l t i e = absurd i
  count_same (u ∷ us) l t i e =
      let a = one_more u in
      let b = count_more us in
      elim i [
        | inl s ↦ elim (true_or_false (p t)) [
          | inl f ↦ f
          | inr f ↦
              let c : one_if (p u) ≡ 0 = ap one_if (ap p (sym s) ∙ f) in
              let d : one_if (q u) ≡ 1 = ap one_if (ap q (sym s) ∙ e) in
              absurd (omega (arith, l, b, c, d))
        ]
        | inr r ↦ count_same us (omega (arith, l, a)) t r e
      ]

module _ (types : Types) where
  abbrev next : List Bytes → List Bytes
  next xs = flat_map (mentioned_by types) xs

  in_next : (y z : Bytes) (xs : List Bytes) → is_among z xs ≡ true → is_among y (mentioned_by types z) ≡ true → is_among y (next xs) ≡ true
  in_next y z [] h e = absurd (cc)
  in_next y z (x ∷ xs) h e = elim (either (same_name z x) (is_among z xs) h) [
    | inl s ↦ in_left y (mentioned_by types x) (next xs) (ap (λ w. is_among y (mentioned_by types w)) (sym (one_name z x s)) ∙ e)
    | inr r ↦ in_right y (mentioned_by types x) (next xs) (in_next y z xs r e)
  ]

  next_in : (y : Bytes) (xs : List Bytes) → is_among y (next xs) ≡ true → (z : Bytes) × (is_among z xs ≡ true) × (is_among y (mentioned_by types z) ≡ true)
  next_in y [] h = absurd (cc)
  next_in y (x ∷ xs) h = elim (in_parts y (mentioned_by types x) (next xs) h) [
    | inl l ↦ (x, or_left (same_name x x) (is_among x xs) (same_is x x refl), l)
    | inr r ↦ let k = next_in y xs r in (k.0, or_right (same_name k.0 x) (is_among k.0 xs) k.1, k.2)
  ]

  -- more steps reach more
  reached_start : (n : ℕ) (y : Bytes) (xs : List Bytes) → is_among y xs ≡ true → is_among y (reached types n xs) ≡ true
  reached_start zero y xs h = h
  reached_start (suc n) y xs h = in_left y xs (reached types n (next xs)) h

  reached_suc : (n : ℕ) (y : Bytes) (xs : List Bytes) → is_among y (reached types n xs) ≡ true → is_among y (reached types (suc n) xs) ≡ true
  reached_suc zero y xs h = in_left y xs (next xs) h
  reached_suc (suc n) y xs h = elim (in_parts y xs (reached types n (next xs)) h) [
    | inl l ↦ in_left y xs (reached types (suc n) (next xs)) l
    | inr r ↦ in_right y xs (reached types (suc n) (next xs)) (reached_suc n y (next xs) r)
  ]

  reached_more : (d n : ℕ) (y : Bytes) (xs : List Bytes) → is_among y (reached types n xs) ≡ true → is_among y (reached types (d + n) xs) ≡ true
  reached_more zero n y xs h = let z : 0 + n ≡ n = omega arith in ap (λ k. is_among y (reached types k xs)) z ∙ h
  reached_more (suc d) n y xs h =
      let z : suc d + n ≡ suc (d + n) = omega arith in
      ap (λ k. is_among y (reached types k xs)) z ∙ reached_suc (d + n) y xs (reached_more d n y xs h)

  -- what one step more reaches is mentioned by what was reached
  reached_step : (n : ℕ) (y z : Bytes) (xs : List Bytes) → is_among z (reached types n xs) ≡ true → is_among y (mentioned_by types z) ≡ true → is_among y (reached types (suc n) xs) ≡ true
  reached_step zero y z xs h e = in_right y xs (next xs) (in_next y z xs h e)
  reached_step (suc n) y z xs h e = elim (in_parts z xs (reached types n (next xs)) h) [
    | inl l ↦ in_right y xs (reached types (suc n) (next xs)) (reached_start (suc n) y (next xs) (in_next y z xs l e))
    | inr r ↦ in_right y xs (reached types (suc n) (next xs)) (reached_step n y z (next xs) r e)
  ]

  abbrev Steps : ℕ → Bytes → List Bytes → Type 0
  Steps n y xs = (is_among y (reached types n xs) ≡ true) ⊎ ((z : Bytes) × (is_among z (reached types n xs) ≡ true) × (is_among y (mentioned_by types z) ≡ true))

  step_reached : (n : ℕ) (y : Bytes) (xs : List Bytes) → is_among y (reached types (suc n) xs) ≡ true → Steps n y xs
  step_reached zero y xs h = elim (in_parts y xs (next xs) h) [
    | inl l ↦ inl l
    | inr r ↦ inr (next_in y xs r)
  ]
  step_reached (suc n) y xs h = elim (in_parts y xs (reached types (suc n) (next xs)) h) [
    | inl l ↦ inl (in_left y xs (reached types n (next xs)) l)
    | inr r ↦ elim (step_reached n y (next xs) r) [
      | inl a ↦ inl (in_right y xs (reached types n (next xs)) a)
      | inr b ↦ inr (b.0, in_right b.0 xs (reached types n (next xs)) b.1, b.2)
    ]
  ]

  -- who mentions something is declared
  abbrev Declared : Bytes → Type 0
  Declared z = (t : Bytes × List Bytes) × In t types × (same_name z t.0 ≡ true)

  found_in : (z : Bytes) (ts : Types) (names : List Bytes) → first_named z ts ≡ Some names → (t : Bytes × List Bytes) × In t ts × (same_name z t.0 ≡ true)
  found_in z [] names e = absurd (cc)
  found_in z (t ∷ ts) names e = elim (true_or_false (same_name z t.0)) [
    | inl s ↦ (t, inl refl, s)
    | inr s ↦ let r = found_in z ts names (sym (ap (λ b. if b then Some t.1 else first_named z ts) s) ∙ e) in (r.0, inr r.1, r.2)
  ]

  none_mentioned : (z : Bytes) → first_named z types ≡ None → mentioned_by types z ≡ []
  none_mentioned z e = rw e

  who_mentions : (y z : Bytes) → is_among y (mentioned_by types z) ≡ true → Declared z
  who_mentions y z h = by (first_named z types) refl
    where
      by : (o : Option (List Bytes)) → first_named z types ≡ o → Declared z
      by None e = clash (is_among y (mentioned_by types z)) h (ap (is_among y) (none_mentioned z e))
      by (Some names) e = found_in z types names e

  module _ (xs : List Bytes) where
    abbrev known : ℕ → (Bytes × List Bytes) → Bool
    known n t = is_among t.0 (reached types n xs)

    known_more : (n : ℕ) (t : Bytes × List Bytes) → known n t ≡ true → known (suc n) t ≡ true
    known_more n t h = reached_suc n t.0 xs h

    -- a declared name, by its data type
    by_type : (n : ℕ) (z : Bytes) (d : Declared z) → known n d.0 ≡ true → is_among z (reached types n xs) ≡ true
    by_type n z d h = ap (λ w. is_among w (reached types n xs)) (one_name z d.0.0 d.2) ∙ h

    to_type : (n : ℕ) (z : Bytes) (d : Declared z) → is_among z (reached types n xs) ≡ true → known n d.0 ≡ true
    to_type n z d h = ap (λ w. is_among w (reached types n xs)) (sym (one_name z d.0.0 d.2)) ∙ h

    -- where one step more reaches no new data type, no number of steps does
    module _ (n : ℕ) (stable : (t : Bytes × List Bytes) → In t types → known (suc n) t ≡ true → known n t ≡ true) where
      no_more : (j : ℕ) (z : Bytes) → Declared z → is_among z (reached types (j + n) xs) ≡ true → is_among z (reached types n xs) ≡ true
      no_more zero z d h = let e : 0 + n ≡ n = omega arith in ap (λ k. is_among z (reached types k xs)) (sym e) ∙ h
      no_more (suc j) z d h =
          let e : suc j + n ≡ suc (j + n) = omega arith in
          elim (step_reached (j + n) z xs (ap (λ k. is_among z (reached types k xs)) (sym e) ∙ h)) [
            | inl l ↦ no_more j z d l
            | inr r ↦ by_type n z d (stable d.0 d.1 (to_type (suc n) z d (reached_step n z r.0 xs (no_more j r.0 (who_mentions z r.0 r.2) r.1) r.2)))
          ]

    -- so many steps as there are data types not reached yet are enough
    enough : (m n : ℕ) → length types ≤ count (known n) types + m → (j : ℕ) (z : Bytes) → Declared z → is_among z (reached types (j + n) xs) ≡ true → is_among z (reached types (m + n) xs) ≡ true
    enough zero n l j z d h =
        let e : 0 + n ≡ n = omega arith in
        ap (λ k. is_among z (reached types k xs)) e ∙ by_type n z d (count_full (known n) types (omega (arith, l)) d.0 d.1)
    enough (suc m) n l j z d h = elim (at_most (count (known (suc n)) types) (count (known n) types)) [
      | inl same ↦ reached_more (suc m) n z xs (no_more n (count_same (known n) (known (suc n)) (known_more n) types same) j z d h)
      | inr more ↦
          let e : suc m + n ≡ m + suc n = omega arith in
          let f : j + suc n ≡ suc (j + n) = omega arith in
          ap (λ k. is_among z (reached types k xs)) e
          ∙ enough m (suc n) (omega (arith, l, more)) j z d (ap (λ k. is_among z (reached types k xs)) f ∙ reached_suc (j + n) z xs h)
    ]
      where
        at_most : (a b : ℕ) → (a ≤ b) ⊎ (b < a)
        at_most a b = grind arith

  start_declared : (n : ℕ) (x : Bytes) → is_among x (reached types n (mentioned_by types x)) ≡ true → Declared x
  start_declared n x h = by (first_named x types) refl
    where
      none_reached : (k : ℕ) → reached types k [] ≡ []
      none_reached zero = refl
      none_reached (suc k) = none_reached k

      by : (o : Option (List Bytes)) → first_named x types ≡ o → Declared x
      by None e = clash (is_among x (reached types n (mentioned_by types x))) h (ap (is_among x) (ap (reached types n) (none_mentioned x e) ∙ none_reached n))
      by (Some names) e = found_in x types names e

  pub however_long : (x : Bytes) (n : ℕ) → is_among x (reached types n (mentioned_by types x)) ≡ true → is_recursive types x ≡ true
  however_long x n h =
      let a : n + 0 ≡ n = omega arith in
      let b : length types + 0 ≡ length types = omega arith in
      let l : length types ≤ count (known (mentioned_by types x) 0) types + length types = omega arith in
      ap (λ k. is_among x (reached types k (mentioned_by types x))) (sym b)
      ∙ enough (mentioned_by types x) (length types) 0 l n x (start_declared n x h) (ap (λ k. is_among x (reached types k (mentioned_by types x))) a ∙ h)
