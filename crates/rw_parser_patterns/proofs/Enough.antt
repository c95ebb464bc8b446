-- Reading with a level for each token reads all that more levels would.
use Rattle.std.proofs.Common.{◌≡◌, ℕ, zero, suc, ◌<◌, ◌≤◌, Bool, List, [], ◌∷◌, length, drop, Some, None, refl, sym, ◌∙◌, arith, inl, inr}
use Rattle.rw_base.specs.declared.place.Span.{Span}
use Rattle.rw_tree.specs.declared.types.Written.{Written}
use Rattle.rw_tree.specs.declared.pattern.Pat.{Pat}
use Rattle.rw_parser_grammar.specs.declared.lexeme.Mark.{Mark}
use Rattle.rw_parser_grammar.specs.declared.lexeme.Mark.TheVariants as m
use Rattle.rw_parser_grammar.specs.declared.lexeme.Spot.{Spot}
use Rattle.rw_parser_grammar.specs.declared.lexeme.Lexeme.{Lexeme}
use Rattle.rw_parser_grammar.specs.declared.lexeme.Lexeme.TheVariants as t
use Rattle.rw_parser_grammar.specs.Types.{few}
use Rattle.rw_parser_reading.specs.Read.{Read, same_mark, sees, after, separated_at, many_at}
use Rattle.rw_parser_reading.specs.ReadTypes.{begins_atype, some_types_at, type_group_at, atype_at, atypes_at, btype_at, type_over_at, type_at}
use Rattle.rw_parser_reading.specs.ReadTypes.{begins_apat, some_patterns_at, pattern_group_at, marked_pattern_at, apat_at, apats_at, built_at, pattern_over_at, pattern_at}
use Rattle.rw_parser_reading.proofs.ReadExact.{bind_some, chosen, moved}
use Rattle.rw_parser_patterns.specs.Depth.{any_type_at, any_pattern_at}

-- what is read takes a token at least
abbrev pub Shrinks : {A : Type 0} → (List Lexeme → Read A) → Type 0
Shrinks {A} one = (ts : List Lexeme) (p : A × List Lexeme) → one ts ≡ Some p → length p.1 < length ts

-- two readers agree on lists of so many tokens at most
abbrev pub Agree : {A : Type 0} → ℕ → (List Lexeme → Read A) → (List Lexeme → Read A) → Type 0
Agree k f g = (ts : List Lexeme) → length ts ≤ k → f ts ≡ g ts

pub drop_shorter : (ts : List Lexeme) → length (drop 1 ts) ≤ length ts
drop_shorter [] = omega arith
drop_shorter (x ∷ xs) = let e : length (drop 1 (x ∷ xs)) ≡ length xs = refl in omega arith

pub after_shorter : (a : Mark) (ts rest : List Lexeme) → after a ts ≡ Some rest → length rest ≤ length ts
unfolding after
after_shorter a ts rest e =
    elim (chosen (sees a ts) _ _ _ e) [
      | inl h ↦ moved (λ z. length z ≤ length ts) _ rest h.1 (drop_shorter ts)
      | inr h ↦ absurd (let n : None ≡ Some rest = h.1 in cc)
    ]

-- ---- lists
module _ {A : Type 0} (between : Mark) (one : List Lexeme → Read A) (shrinks : Shrinks one) where
  pub separated_shrinks : (n : ℕ) (ts : List Lexeme) (p : List A × List Lexeme) → separated_at between one n ts ≡ Some p → length p.1 < length ts
  unfolding separated_at
  separated_shrinks zero ts p e = absurd (cc)
  separated_shrinks (suc n) ts p e =
      let b = bind_some (one ts) _ p e in
      let h : length b.0.1 < length ts = shrinks ts b.0 b.1 in
      elim (chosen (sees between b.0.1) _ _ _ b.2) [
        | inl k ↦ let q = bind_some (separated_at between one n (drop 1 b.0.1)) _ p k.1 in
            let i : length q.0.1 < length (drop 1 b.0.1) = separated_shrinks n (drop 1 b.0.1) q.0 q.1 in
            let j = drop_shorter b.0.1 in
            moved (λ r. length r.1 < length ts) _ p q.2 (let r : length q.0.1 < length ts = omega arith in r)
        | inr k ↦ moved (λ r. length r.1 < length ts) _ p k.1 h
      ]

  module _ (other : List Lexeme → Read A) (k : ℕ) (agree : Agree k one other) where
    separated_turn : (n : ℕ) → Agree k (separated_at between one n) (separated_at between other n) → (ts : List Lexeme) (r : Read A) → one ts ≡ r → length ts ≤ k
        → separated_at between one (suc n) ts ≡ separated_at between other (suc n) ts
    unfolding separated_at
    separated_turn n before ts None e h = let g : other ts ≡ None = sym (agree ts h) ∙ e in rw (e, g)
    separated_turn n before ts (Some p) e h =
        let g : other ts ≡ Some p = sym (agree ts h) ∙ e in
        let i : length p.1 < length ts = shrinks ts p e in
        let j = drop_shorter p.1 in
        let s = before (drop 1 p.1) (omega arith) in
        rw (e, g, s)

    pub separated_agree : (n : ℕ) → Agree k (separated_at between one n) (separated_at between other n)
    unfolding separated_at
    separated_agree zero ts h = refl
    separated_agree (suc n) ts h = separated_turn n (separated_agree n) ts (one ts) refl h

module _ {A : Type 0} (begins : List Lexeme → Bool) (one : List Lexeme → Read A) (shrinks : Shrinks one) where
  pub many_shrinks : (n : ℕ) (ts : List Lexeme) (p : List A × List Lexeme) → many_at begins one n ts ≡ Some p → length p.1 ≤ length ts
  unfolding many_at
  many_shrinks zero ts p e = moved (λ r. length r.1 ≤ length ts) _ p e (let r : length ts ≤ length ts = omega arith in r)
  many_shrinks (suc n) ts p e =
      elim (chosen (begins ts) _ _ _ e) [
        | inl h ↦ let b = bind_some (one ts) _ p h.1 in
            let q = bind_some (many_at begins one n b.0.1) _ p b.2 in
            let i : length b.0.1 < length ts = shrinks ts b.0 b.1 in
            let j : length q.0.1 ≤ length b.0.1 = many_shrinks n b.0.1 q.0 q.1 in
            moved (λ r. length r.1 ≤ length ts) _ p q.2 (let r : length q.0.1 ≤ length ts = omega arith in r)
        | inr h ↦ moved (λ r. length r.1 ≤ length ts) _ p h.1 (let r : length ts ≤ length ts = omega arith in r)
      ]

  module _ (other : List Lexeme → Read A) (k : ℕ) (agree : Agree k one other) where
    many_turn : (n : ℕ) → Agree k (many_at begins one n) (many_at begins other n) → (ts : List Lexeme) (r : Read A) → one ts ≡ r → length ts ≤ k → many_at begins one (suc n) ts ≡ many_at begins other (suc n) ts
    unfolding many_at
    many_turn n before ts None e h = let g : other ts ≡ None = sym (agree ts h) ∙ e in rw (e, g)
    many_turn n before ts (Some p) e h =
        let g : other ts ≡ Some p = sym (agree ts h) ∙ e in
        let i : length p.1 < length ts = shrinks ts p e in
        let s = before p.1 (omega arith) in
        rw (e, g, s)

    pub many_agree : (n : ℕ) → Agree k (many_at begins one n) (many_at begins other n)
    unfolding many_at
    many_agree zero ts h = refl
    many_agree (suc n) ts h = many_turn n (many_agree n) ts (one ts) refl h

-- ---- types
module _ (inner : List Lexeme → Read Written) (shrinks : Shrinks inner) where
  some_types_shrink : (ts : List Lexeme) (p : Written × List Lexeme) → some_types_at inner ts ≡ Some p → length p.1 ≤ length ts
  unfolding some_types_at
  some_types_shrink ts p e =
      let b = bind_some (separated_at m.Comma inner (length ts) ts) _ p e in
      let r = bind_some (after m.Closes b.0.1) _ p b.2 in
      let h : length b.0.1 < length ts = separated_shrinks m.Comma inner shrinks (length ts) ts b.0 b.1 in
      let i : length r.0 ≤ length b.0.1 = after_shorter m.Closes b.0.1 r.0 r.1 in
      elim (chosen (few b.0.0) _ _ _ r.2) [
        | inl k ↦ moved (λ z. length z.1 ≤ length ts) _ p k.1 (let s : length r.0 ≤ length ts = omega arith in s)
        | inr k ↦ absurd (let n : None ≡ Some p = k.1 in cc)
      ]

  type_group_shrinks : (ts : List Lexeme) (p : Written × List Lexeme) → type_group_at inner ts ≡ Some p → length p.1 ≤ length ts
  unfolding type_group_at
  type_group_shrinks ts p e =
      elim (chosen (sees m.Closes ts) _ _ _ e) [
        | inl h ↦ moved (λ z. length z.1 ≤ length ts) _ p h.1 (drop_shorter ts)
        | inr h ↦ some_types_shrink ts p h.1
      ]

  pub atype_shrinks : Shrinks (atype_at inner)
  atype_shrinks [] p e = absurd (cc)
  atype_shrinks (t.Mark w a ∷ ts) p e =
      elim (chosen (same_mark a m.Opens) _ _ _ e) [
        | inl h ↦ let k : length p.1 ≤ length ts = type_group_shrinks ts p h.1 in omega arith
        | inr h ↦ absurd (let n : None ≡ Some p = h.1 in cc)
      ]
  atype_shrinks (t.Variable w name ∷ ts) p e = moved (λ z. length z.1 < suc (length ts)) _ p e (let s : length ts < suc (length ts) = omega arith in s)
  atype_shrinks (t.Constructor w name ∷ ts) p e = moved (λ z. length z.1 < suc (length ts)) _ p e (let s : length ts < suc (length ts) = omega arith in s)
  atype_shrinks (t.Operator w name ∷ ts) p e = absurd (cc)
  atype_shrinks (t.Number w digits ∷ ts) p e = absurd (cc)

  pub atypes_shrink : (ts : List Lexeme) (p : List Written × List Lexeme) → atypes_at inner ts ≡ Some p → length p.1 ≤ length ts
  unfolding atypes_at
  atypes_shrink ts p e = many_shrinks begins_atype (atype_at inner) atype_shrinks (length ts) ts p e

  pub btype_shrinks : Shrinks (btype_at inner)
  unfolding btype_at
  btype_shrinks ts p e =
      let b = bind_some (atype_at inner ts) _ p e in
      let q = bind_some (atypes_at inner b.0.1) _ p b.2 in
      let h : length b.0.1 < length ts = atype_shrinks ts b.0 b.1 in
      let i : length q.0.1 ≤ length b.0.1 = atypes_shrink b.0.1 q.0 q.1 in
      moved (λ z. length z.1 < length ts) _ p q.2 (let s : length q.0.1 < length ts = omega arith in s)

  pub type_over_shrinks : Shrinks (type_over_at inner)
  unfolding type_over_at
  type_over_shrinks ts p e =
      let b = bind_some (btype_at inner ts) _ p e in
      let h : length b.0.1 < length ts = btype_shrinks ts b.0 b.1 in
      elim (chosen (sees m.Arrow b.0.1) _ _ _ b.2) [
        | inl k ↦ let q = bind_some (inner (drop 1 b.0.1)) _ p k.1 in
            let i : length q.0.1 < length (drop 1 b.0.1) = shrinks (drop 1 b.0.1) q.0 q.1 in
            let j = drop_shorter b.0.1 in
            moved (λ z. length z.1 < length ts) _ p q.2 (let s : length q.0.1 < length ts = omega arith in s)
        | inr k ↦ moved (λ z. length z.1 < length ts) _ p k.1 h
      ]

  module _ (other : List Lexeme → Read Written) (k : ℕ) (agree : Agree k inner other) where
    some_types_agree : Agree k (some_types_at inner) (some_types_at other)
    unfolding some_types_at
    some_types_agree ts h = let e = separated_agree m.Comma inner shrinks other k agree (length ts) ts h in rw e

    type_group_agree : Agree k (type_group_at inner) (type_group_at other)
    unfolding type_group_at
    type_group_agree ts h = let e = some_types_agree ts h in rw e

    pub atype_agree : Agree (suc k) (atype_at inner) (atype_at other)
    atype_agree [] h = refl
    atype_agree (t.Mark w a ∷ ts) h = let e = type_group_agree ts (omega arith) in rw e
    atype_agree (t.Variable w name ∷ ts) h = refl
    atype_agree (t.Constructor w name ∷ ts) h = refl
    atype_agree (t.Operator w name ∷ ts) h = refl
    atype_agree (t.Number w digits ∷ ts) h = refl

    pub atypes_agree : Agree (suc k) (atypes_at inner) (atypes_at other)
    unfolding atypes_at
    atypes_agree ts h = many_agree begins_atype (atype_at inner) atype_shrinks (atype_at other) (suc k) atype_agree (length ts) ts h

    btype_agree_at : (ts : List Lexeme) (r : Read Written) → atype_at inner ts ≡ r → length ts ≤ suc k → btype_at inner ts ≡ btype_at other ts
    unfolding btype_at
    btype_agree_at ts None e h = let g : atype_at other ts ≡ None = sym (atype_agree ts h) ∙ e in rw (e, g)
    btype_agree_at ts (Some p) e h =
        let g : atype_at other ts ≡ Some p = sym (atype_agree ts h) ∙ e in
        let i : length p.1 < length ts = atype_shrinks ts p e in
        let s = atypes_agree p.1 (omega arith) in
        rw (e, g, s)

    btype_agree : Agree (suc k) (btype_at inner) (btype_at other)
    btype_agree ts h = btype_agree_at ts (atype_at inner ts) refl h

    type_over_agree_at : (ts : List Lexeme) (r : Read Written) → btype_at inner ts ≡ r → length ts ≤ suc k → type_over_at inner ts ≡ type_over_at other ts
    unfolding type_over_at
    type_over_agree_at ts None e h = let g : btype_at other ts ≡ None = sym (btype_agree ts h) ∙ e in rw (e, g)
    type_over_agree_at ts (Some p) e h =
        let g : btype_at other ts ≡ Some p = sym (btype_agree ts h) ∙ e in
        let i : length p.1 < length ts = btype_shrinks ts p e in
        let j = drop_shorter p.1 in
        let s = agree (drop 1 p.1) (omega arith) in
        rw (e, g, s)

    pub type_over_agree : Agree (suc k) (type_over_at inner) (type_over_at other)
    type_over_agree ts h = type_over_agree_at ts (btype_at inner ts) refl h

pub type_shrinks : (n : ℕ) → Shrinks (type_at n)
unfolding type_at
type_shrinks zero ts p e = absurd (cc)
type_shrinks (suc n) ts p e = type_over_shrinks (type_at n) (type_shrinks n) ts p e

no_type_here : (n : ℕ) → type_at n [] ≡ None
unfolding type_at type_over_at btype_at
no_type_here zero = refl
no_type_here (suc n) = refl

types_agree : (k n m : ℕ) → k ≤ n → k ≤ m → Agree k (type_at n) (type_at m)
unfolding type_at
types_agree k n m g h [] l = no_type_here n ∙ sym (no_type_here m)
types_agree zero n m g h (x ∷ xs) l = absurd (omega arith)
types_agree (suc k) zero m g h (x ∷ xs) l = absurd (omega arith)
types_agree (suc k) (suc n) zero g h (x ∷ xs) l = absurd (omega arith)
types_agree (suc k) (suc n) (suc m) g h (x ∷ xs) l = type_over_agree (type_at n) (type_shrinks n) (type_at m) k (types_agree k n m (omega arith) (omega arith)) (x ∷ xs) l

-- so many levels as there are tokens are enough
pub type_enough : (n : ℕ) (ts : List Lexeme) → length ts ≤ n → type_at n ts ≡ any_type_at ts
unfolding any_type_at
type_enough n ts h = types_agree (length ts) n (length ts) h (omega arith) ts (omega arith)

pub any_type_shrinks : Shrinks any_type_at
unfolding any_type_at
any_type_shrinks ts p e = type_shrinks (length ts) ts p e

any_type_once : (x : Lexeme) (xs : List Lexeme) → any_type_at (x ∷ xs) ≡ type_over_at (type_at (length xs)) (x ∷ xs)
unfolding any_type_at type_at
any_type_once x xs = refl

any_type_empty : any_type_at [] ≡ type_over_at any_type_at []
unfolding any_type_at type_at type_over_at btype_at
any_type_empty = refl

pub any_type_over : (ts : List Lexeme) → any_type_at ts ≡ type_over_at any_type_at ts
any_type_over [] = any_type_empty
any_type_over (x ∷ xs) = any_type_once x xs ∙ type_over_agree (type_at (length xs)) (type_shrinks (length xs)) any_type_at (length xs) (type_enough (length xs)) (x ∷ xs) (omega arith)

pub atype_enough : (n : ℕ) (ts : List Lexeme) → length ts ≤ suc n → atype_at (type_at n) ts ≡ atype_at any_type_at ts
atype_enough n ts h = atype_agree (type_at n) (type_shrinks n) any_type_at n (type_enough n) ts h

pub atypes_enough : (n : ℕ) (ts : List Lexeme) → length ts ≤ suc n → atypes_at (type_at n) ts ≡ atypes_at any_type_at ts
atypes_enough n ts h = atypes_agree (type_at n) (type_shrinks n) any_type_at n (type_enough n) ts h

-- ---- patterns
module _ (inner : List Lexeme → Read (Pat Span)) (shrinks : Shrinks inner) where
  some_patterns_shrink : (v : Spot) (ts : List Lexeme) (p : Pat Span × List Lexeme) → some_patterns_at inner v ts ≡ Some p → length p.1 ≤ length ts
  unfolding some_patterns_at
  some_patterns_shrink v ts p e =
      let b = bind_some (separated_at m.Comma inner (length ts) ts) _ p e in
      let r = bind_some (after m.Closes b.0.1) _ p b.2 in
      let h : length b.0.1 < length ts = separated_shrinks m.Comma inner shrinks (length ts) ts b.0 b.1 in
      let i : length r.0 ≤ length b.0.1 = after_shorter m.Closes b.0.1 r.0 r.1 in
      elim (chosen (few b.0.0) _ _ _ r.2) [
        | inl k ↦ moved (λ z. length z.1 ≤ length ts) _ p k.1 (let s : length r.0 ≤ length ts = omega arith in s)
        | inr k ↦ absurd (let n : None ≡ Some p = k.1 in cc)
      ]

  pattern_group_shrinks : (v : Spot) (ts : List Lexeme) (p : Pat Span × List Lexeme) → pattern_group_at inner v ts ≡ Some p → length p.1 ≤ length ts
  unfolding pattern_group_at
  pattern_group_shrinks v ts p e =
      elim (chosen (sees m.Closes ts) _ _ _ e) [
        | inl h ↦ moved (λ z. length z.1 ≤ length ts) _ p h.1 (drop_shorter ts)
        | inr h ↦ some_patterns_shrink v ts p h.1
      ]

  marked_pattern_shrinks : (v : Spot) (a : Mark) (ts : List Lexeme) (p : Pat Span × List Lexeme) → marked_pattern_at inner v a ts ≡ Some p → length p.1 < suc (length ts)
  unfolding marked_pattern_at
  marked_pattern_shrinks v a ts p e =
      elim (chosen (same_mark a m.Opens) _ _ _ e) [
        | inl h ↦ let k : length p.1 ≤ length ts = pattern_group_shrinks v ts p h.1 in omega arith
        | inr h ↦ elim (chosen (same_mark a m.Underscore) _ _ _ h.1) [
          | inl k ↦ moved (λ z. length z.1 < suc (length ts)) _ p k.1 (let s : length ts < suc (length ts) = omega arith in s)
          | inr k ↦ absurd (let n : None ≡ Some p = k.1 in cc)
        ]
      ]

  pub apat_shrinks : Shrinks (apat_at inner)
  apat_shrinks [] p e = absurd (cc)
  apat_shrinks (t.Mark w a ∷ ts) p e = marked_pattern_shrinks w a ts p e
  apat_shrinks (t.Variable w name ∷ ts) p e = moved (λ z. length z.1 < suc (length ts)) _ p e (let s : length ts < suc (length ts) = omega arith in s)
  apat_shrinks (t.Constructor w name ∷ ts) p e = moved (λ z. length z.1 < suc (length ts)) _ p e (let s : length ts < suc (length ts) = omega arith in s)
  apat_shrinks (t.Operator w name ∷ ts) p e = absurd (cc)
  apat_shrinks (t.Number w digits ∷ ts) p e = absurd (cc)

  pub apats_shrink : (ts : List Lexeme) (p : List (Pat Span) × List Lexeme) → apats_at inner ts ≡ Some p → length p.1 ≤ length ts
  unfolding apats_at
  apats_shrink ts p e = many_shrinks begins_apat (apat_at inner) apat_shrinks (length ts) ts p e

  built_shrinks : (w : Spot) (name : List ℕ) (ts : List Lexeme) (p : Pat Span × List Lexeme) → built_at inner w name ts ≡ Some p → length p.1 < suc (length ts)
  unfolding built_at
  built_shrinks w name ts p e =
      let q = bind_some (apats_at inner ts) _ p e in
      let i : length q.0.1 ≤ length ts = apats_shrink ts q.0 q.1 in
      moved (λ z. length z.1 < suc (length ts)) _ p q.2 (let s : length q.0.1 < suc (length ts) = omega arith in s)

  pub pattern_over_shrinks : Shrinks (pattern_over_at inner)
  pattern_over_shrinks [] p e = absurd (cc)
  pattern_over_shrinks (t.Mark w a ∷ ts) p e = marked_pattern_shrinks w a ts p e
  pattern_over_shrinks (t.Variable w name ∷ ts) p e = moved (λ z. length z.1 < suc (length ts)) _ p e (let s : length ts < suc (length ts) = omega arith in s)
  pattern_over_shrinks (t.Constructor w name ∷ ts) p e = built_shrinks w name ts p e
  pattern_over_shrinks (t.Operator w name ∷ ts) p e = absurd (cc)
  pattern_over_shrinks (t.Number w digits ∷ ts) p e = absurd (cc)

  module _ (other : List Lexeme → Read (Pat Span)) (k : ℕ) (agree : Agree k inner other) where
    some_patterns_agree : (v : Spot) → Agree k (some_patterns_at inner v) (some_patterns_at other v)
    unfolding some_patterns_at
    some_patterns_agree v ts h = let e = separated_agree m.Comma inner shrinks other k agree (length ts) ts h in rw e

    pattern_group_agree : (v : Spot) → Agree k (pattern_group_at inner v) (pattern_group_at other v)
    unfolding pattern_group_at
    pattern_group_agree v ts h = let e = some_patterns_agree v ts h in rw e

    marked_pattern_agree : (v : Spot) (a : Mark) → Agree k (marked_pattern_at inner v a) (marked_pattern_at other v a)
    unfolding marked_pattern_at
    marked_pattern_agree v a ts h = let e = pattern_group_agree v ts h in rw e

    pub apat_agree : Agree (suc k) (apat_at inner) (apat_at other)
    apat_agree [] h = refl
    apat_agree (t.Mark w a ∷ ts) h = marked_pattern_agree w a ts (omega arith)
    apat_agree (t.Variable w name ∷ ts) h = refl
    apat_agree (t.Constructor w name ∷ ts) h = refl
    apat_agree (t.Operator w name ∷ ts) h = refl
    apat_agree (t.Number w digits ∷ ts) h = refl

    pub apats_agree : Agree (suc k) (apats_at inner) (apats_at other)
    unfolding apats_at
    apats_agree ts h = many_agree begins_apat (apat_at inner) apat_shrinks (apat_at other) (suc k) apat_agree (length ts) ts h

    built_agree : (w : Spot) (name : List ℕ) → Agree (suc k) (built_at inner w name) (built_at other w name)
    unfolding built_at
    built_agree w name ts h = let e = apats_agree ts h in rw e

    pub pattern_over_agree : Agree (suc k) (pattern_over_at inner) (pattern_over_at other)
    pattern_over_agree [] h = refl
    pattern_over_agree (t.Mark w a ∷ ts) h = marked_pattern_agree w a ts (omega arith)
    pattern_over_agree (t.Variable w name ∷ ts) h = refl
    pattern_over_agree (t.Constructor w name ∷ ts) h = built_agree w name ts (omega arith)
    pattern_over_agree (t.Operator w name ∷ ts) h = refl
    pattern_over_agree (t.Number w digits ∷ ts) h = refl

pub pattern_shrinks : (n : ℕ) → Shrinks (pattern_at n)
unfolding pattern_at
pattern_shrinks zero ts p e = absurd (cc)
pattern_shrinks (suc n) ts p e = pattern_over_shrinks (pattern_at n) (pattern_shrinks n) ts p e

no_pattern_here : (n : ℕ) → pattern_at n [] ≡ None
unfolding pattern_at
no_pattern_here zero = refl
no_pattern_here (suc n) = refl

patterns_agree : (k n m : ℕ) → k ≤ n → k ≤ m → Agree k (pattern_at n) (pattern_at m)
unfolding pattern_at
patterns_agree k n m g h [] l = no_pattern_here n ∙ sym (no_pattern_here m)
patterns_agree zero n m g h (x ∷ xs) l = absurd (omega arith)
patterns_agree (suc k) zero m g h (x ∷ xs) l = absurd (omega arith)
patterns_agree (suc k) (suc n) zero g h (x ∷ xs) l = absurd (omega arith)
patterns_agree (suc k) (suc n) (suc m) g h (x ∷ xs) l = pattern_over_agree (pattern_at n) (pattern_shrinks n) (pattern_at m) k (patterns_agree k n m (omega arith) (omega arith)) (x ∷ xs) l

-- so many levels as there are tokens are enough
pub pattern_enough : (n : ℕ) (ts : List Lexeme) → length ts ≤ n → pattern_at n ts ≡ any_pattern_at ts
unfolding any_pattern_at
pattern_enough n ts h = patterns_agree (length ts) n (length ts) h (omega arith) ts (omega arith)

pub any_pattern_shrinks : Shrinks any_pattern_at
unfolding any_pattern_at
any_pattern_shrinks ts p e = pattern_shrinks (length ts) ts p e

any_pattern_once : (x : Lexeme) (xs : List Lexeme) → any_pattern_at (x ∷ xs) ≡ pattern_over_at (pattern_at (length xs)) (x ∷ xs)
unfolding any_pattern_at pattern_at
any_pattern_once x xs = refl

any_pattern_empty : any_pattern_at [] ≡ None
unfolding any_pattern_at pattern_at
any_pattern_empty = refl

pub any_pattern_over : (ts : List Lexeme) → any_pattern_at ts ≡ pattern_over_at any_pattern_at ts
any_pattern_over [] = any_pattern_empty
any_pattern_over (x ∷ xs) = any_pattern_once x xs ∙ pattern_over_agree (pattern_at (length xs)) (pattern_shrinks (length xs)) any_pattern_at (length xs) (pattern_enough (length xs)) (x ∷ xs) (omega arith)

pub apat_enough : (n : ℕ) (ts : List Lexeme) → length ts ≤ suc n → apat_at (pattern_at n) ts ≡ apat_at any_pattern_at ts
apat_enough n ts h = apat_agree (pattern_at n) (pattern_shrinks n) any_pattern_at n (pattern_enough n) ts h

pub apats_enough : (n : ℕ) (ts : List Lexeme) → length ts ≤ suc n → apats_at (pattern_at n) ts ≡ apats_at any_pattern_at ts
apats_enough n ts h = apats_agree (pattern_at n) (pattern_shrinks n) any_pattern_at n (pattern_enough n) ts h

pub some_patterns_enough : (n k : ℕ) (ts : List Lexeme) → length ts ≤ n → separated_at m.Comma (pattern_at n) k ts ≡ separated_at m.Comma any_pattern_at k ts
some_patterns_enough n k ts h = separated_agree m.Comma (pattern_at n) (pattern_shrinks n) any_pattern_at n (pattern_enough n) k ts h
