-- Readers that agree on short lists make readers that agree on lists one longer: of lists of parts, types and patterns.
use Rattle.std.proofs.Common.{◌≡◌, ℕ, zero, suc, ◌<◌, ◌≤◌, Bool, true, false, cond, List, [], ◌∷◌, length, drop, Option, Some, None, refl, ap, subst, ◌∙◌, arith, inl, inr}
use Rattle.rw_base.specs.declared.place.Span.{Span}
use Rattle.rw_tree.specs.declared.types.Written.{Written}
use Rattle.rw_tree.specs.declared.pattern.Pat.{Pat}
use Rattle.rw_parser_grammar.specs.declared.lexeme.Mark.{Mark}
use Rattle.rw_parser_grammar.specs.declared.lexeme.Mark.TheVariants as m
use Rattle.rw_parser_grammar.specs.declared.lexeme.Spot.{Spot}
use Rattle.rw_parser_grammar.specs.declared.lexeme.Lexeme.{Lexeme}
use Rattle.rw_parser_grammar.specs.declared.lexeme.Lexeme.TheVariants as t
use Rattle.rw_parser_grammar.specs.Types.{few}
use Rattle.rw_parser_reading.specs.Read.{◌>>=◌, Read, same_mark, sees, after, separated_at, many_at, entries_at, block_at}
use Rattle.rw_parser_reading.specs.ReadTypes.{begins_atype, some_types_at, type_group_at, atype_at, atypes_at, btype_at, type_over_at}
use Rattle.rw_parser_reading.specs.ReadTypes.{begins_apat, some_patterns_at, pattern_group_at, marked_pattern_at, apat_at, apats_at, built_at, pattern_over_at}
use Rattle.rw_parser_reading.proofs.ReadExact.{chosen, some_is, Exact, Runs}

-- ---- two answers
-- they are the same, and what is found has less than so much left
pub record Alike {X : Type 0} (size : X → ℕ) (n : ℕ) (o p : Option X) : Type 0 where
  pub same : o ≡ p
  pub less : (x : X) → o ≡ Some x → size x < n

pub alike_none : {X : Type 0} {size : X → ℕ} {n : ℕ} → Alike size n None None
alike_none = record { same = refl; less = λ x e. absurd (cc) }

pub alike_some : {X : Type 0} {size : X → ℕ} {n : ℕ} (x : X) → size x < n → Alike size n (Some x) (Some x)
alike_some {size = size} {n = n} x h = record { same = refl; less = λ y e. subst (λ z. size z < n) (some_is x y e) h }

pub alike_if : {X : Type 0} {size : X → ℕ} {n : ℕ} (b : Bool) (x y z w : Option X) → Alike size n x y → Alike size n z w → Alike size n (cond b x z) (cond b y w)
alike_if true x y z w h k = h
alike_if false x y z w h k = k

bind_at : {X Y : Type 0} {size : X → ℕ} {rest : Y → ℕ} {m n : ℕ} (o p : Option X) (f g : X → Option Y) → o ≡ p → ((x : X) → o ≡ Some x → size x < m) → ((x : X) → size x < m → Alike rest n (f x) (g x)) → Alike rest n (o >>= f) (p >>= g)
bind_at None p f g e l k = record { same = ap (λ z. z >>= g) e; less = λ y d. absurd (cc) }
bind_at (Some x) p f g e l k = let h = k x (l x refl) in record { same = h.same ∙ ap (λ z. z >>= g) e; less = h.less }

pub alike_bind : {X Y : Type 0} {size : X → ℕ} {rest : Y → ℕ} {m n : ℕ} (o p : Option X) (f g : X → Option Y) → Alike size m o p → ((x : X) → size x < m → Alike rest n (f x) (g x)) → Alike rest n (o >>= f) (p >>= g)
alike_bind o p f g h k = bind_at o p f g h.same h.less k

-- how much is left behind what was read
abbrev pub left : {A : Type 0} → A × List Lexeme → ℕ
left p = length p.1

-- on lists of so many tokens at most two readers read the same, and something
abbrev pub Agree : {A : Type 0} → ℕ → (List Lexeme → Read A) → (List Lexeme → Read A) → Type 0
Agree k f g = (ts : List Lexeme) → length ts ≤ k → Alike left (length ts) (f ts) (g ts)

-- the same, where nothing may be read
abbrev pub Pass : {A : Type 0} → ℕ → (List Lexeme → Read A) → (List Lexeme → Read A) → Type 0
Pass k f g = (ts : List Lexeme) → length ts ≤ k → Alike left (suc (length ts)) (f ts) (g ts)

pub drop_shorter : (ts : List Lexeme) → length (drop 1 ts) ≤ length ts
drop_shorter [] = omega arith
drop_shorter (x ∷ xs) = let e : length (drop 1 (x ∷ xs)) ≡ length xs = refl in omega arith

pub drop_fits : (k : ℕ) (ts : List Lexeme) → length ts ≤ suc k → length (drop 1 ts) ≤ k
drop_fits k [] h = omega arith
drop_fits k (x ∷ xs) h = let e : length (drop 1 (x ∷ xs)) ≡ length xs = refl in omega arith

drop_less : (a : Mark) (ts : List Lexeme) → sees a ts ≡ true → length (drop 1 ts) < length ts
drop_less a [] h = absurd (cc)
drop_less a (x ∷ xs) h = let e : length (drop 1 (x ∷ xs)) ≡ length xs = refl in omega arith

pub alike_after : (a : Mark) (ts : List Lexeme) → Alike length (length ts) (after a ts) (after a ts)
unfolding after
alike_after a ts =
    record {
      same = refl;
      less = λ x e. elim (chosen (sees a ts) _ _ _ e) [
        | inl h ↦ subst (λ z. length z < length ts) (some_is (drop 1 ts) x h.1) (drop_less a ts h.0)
        | inr h ↦ absurd (let n : None ≡ Some x = h.1 in cc)
      ];
    }

-- a reader that is exact agrees with itself
pub exact_alike : {A : Type 0} {read : List Lexeme → Read A} {Is : List Lexeme → A → List Lexeme → Type 0} {stop : List Lexeme → Bool} → Exact read Is stop → (ts : List Lexeme) → Alike left (length ts) (read ts) (read ts)
exact_alike exact ts = record { same = refl; less = λ p e. exact.shorter ts p.0 p.1 (exact.sound ts p e) }

pub runs_alike : {A : Type 0} {read : List Lexeme → Read A} {Is : List Lexeme → A → List Lexeme → Type 0} {stop : List Lexeme → Bool} → Runs read Is stop → (ts : List Lexeme) → Alike left (suc (length ts)) (read ts) (read ts)
runs_alike runs ts = record { same = refl; less = λ p e. let h = runs.shorter ts p.0 p.1 (runs.sound ts p e) in omega arith }

-- ---- lists of parts
module _ {A : Type 0} (k : ℕ) (f g : List Lexeme → Read A) (agree : Agree k f g) where
  pub separated_alike : (between : Mark) (n : ℕ) (ts : List Lexeme) → length ts ≤ k → Alike left (length ts) (separated_at between f n ts) (separated_at between g n ts)
  unfolding separated_at
  separated_alike between zero ts h = alike_none
  separated_alike between (suc n) ts h =
      alike_bind (f ts) (g ts) _ _ (agree ts h)
      (λ p i. let d = drop_shorter p.1 in
      alike_if (sees between p.1) _ _ _ _ (alike_bind (separated_at between f n (drop 1 p.1)) (separated_at between g n (drop 1 p.1)) _ _ (separated_alike between n (drop 1 p.1) (omega arith)) (λ q j. alike_some (p.0 ∷ q.0, q.1) (omega arith)))
      (alike_some (p.0 ∷ [], p.1) (omega arith)))

  pub many_alike : (begins : List Lexeme → Bool) (n : ℕ) (ts : List Lexeme) → length ts ≤ k → Alike left (suc (length ts)) (many_at begins f n ts) (many_at begins g n ts)
  unfolding many_at
  many_alike begins zero ts h = alike_some ([], ts) (omega arith)
  many_alike begins (suc n) ts h =
      alike_if (begins ts) _ _ _ _
      (alike_bind (f ts) (g ts) _ _ (agree ts h)
      (λ p i. alike_bind (many_at begins f n p.1) (many_at begins g n p.1) _ _ (many_alike begins n p.1 (omega arith)) (λ q j. alike_some (p.0 ∷ q.0, q.1) (omega arith))))
      (alike_some ([], ts) (omega arith))

  pub entries_alike : (n : ℕ) (ts : List Lexeme) → length ts ≤ k → Alike left (suc (length ts)) (entries_at f n ts) (entries_at g n ts)
  unfolding entries_at
  entries_alike zero ts h = alike_none
  entries_alike (suc n) ts h =
      let d = drop_shorter ts in
      alike_if (sees m.ClosesBlock ts) _ _ _ _ (alike_some ([], drop 1 ts) (omega arith))
      (alike_if (sees m.Semicolon ts) _ _ _ _ (let r = entries_alike n (drop 1 ts) (omega arith) in record { same = r.same; less = λ p e. let i = r.less p e in omega arith })
      (alike_bind (f ts) (g ts) _ _ (agree ts h)
      (λ p i. let c = drop_shorter p.1 in
      alike_if (sees m.ClosesBlock p.1) _ _ _ _ (alike_some (p.0 ∷ [], drop 1 p.1) (omega arith))
      (alike_bind (after m.Semicolon p.1) (after m.Semicolon p.1) _ _ (alike_after m.Semicolon p.1)
      (λ r j. alike_bind (entries_at f n r) (entries_at g n r) _ _ (entries_alike n r (omega arith)) (λ q l. alike_some (p.0 ∷ q.0, q.1) (omega arith)))))))

  pub block_alike : Agree (suc k) (block_at f) (block_at g)
  unfolding block_at
  block_alike ts h =
      alike_bind (after m.OpensBlock ts) (after m.OpensBlock ts) _ _ (alike_after m.OpensBlock ts)
      (λ r i. let e = entries_alike (length r) r (omega arith) in record { same = e.same; less = λ p d. let j = e.less p d in omega arith })

-- ---- types
module _ (k : ℕ) (f g : List Lexeme → Read Written) (agree : Agree k f g) where
  some_types_alike : Pass k (some_types_at f) (some_types_at g)
  unfolding some_types_at
  some_types_alike ts h =
      alike_bind (separated_at m.Comma f (length ts) ts) (separated_at m.Comma g (length ts) ts) _ _ (separated_alike k f g agree m.Comma (length ts) ts h)
      (λ p i. alike_bind (after m.Closes p.1) (after m.Closes p.1) _ _ (alike_after m.Closes p.1) (λ r j. alike_if (few p.0) _ _ _ _ (alike_some _ (omega arith)) alike_none))

  type_group_alike : Pass k (type_group_at f) (type_group_at g)
  unfolding type_group_at
  type_group_alike ts h = let d = drop_shorter ts in alike_if (sees m.Closes ts) _ _ _ _ (alike_some _ (omega arith)) (some_types_alike ts h)

  pub atype_alike : Agree (suc k) (atype_at f) (atype_at g)
  atype_alike [] h = alike_none
  atype_alike (t.Mark w a ∷ ts) h = alike_if (same_mark a m.Opens) _ _ _ _ (type_group_alike ts (omega arith)) alike_none
  atype_alike (t.Variable w name ∷ ts) h = alike_some _ (omega arith)
  atype_alike (t.Constructor w name ∷ ts) h = alike_some _ (omega arith)
  atype_alike (t.Operator w name ∷ ts) h = alike_none
  atype_alike (t.Number w digits ∷ ts) h = alike_none

  pub atypes_alike : Pass (suc k) (atypes_at f) (atypes_at g)
  unfolding atypes_at
  atypes_alike ts h = many_alike (suc k) (atype_at f) (atype_at g) atype_alike begins_atype (length ts) ts h

  btype_alike : Agree (suc k) (btype_at f) (btype_at g)
  unfolding btype_at
  btype_alike ts h =
      alike_bind (atype_at f ts) (atype_at g ts) _ _ (atype_alike ts h)
      (λ p i. alike_bind (atypes_at f p.1) (atypes_at g p.1) _ _ (atypes_alike p.1 (omega arith)) (λ q j. alike_some _ (omega arith)))

  pub type_over_alike : Agree (suc k) (type_over_at f) (type_over_at g)
  unfolding type_over_at
  type_over_alike ts h =
      alike_bind (btype_at f ts) (btype_at g ts) _ _ (btype_alike ts h)
      (λ p i. let d = drop_shorter p.1 in
      alike_if (sees m.Arrow p.1) _ _ _ _ (alike_bind (f (drop 1 p.1)) (g (drop 1 p.1)) _ _ (agree (drop 1 p.1) (omega arith)) (λ q j. alike_some _ (omega arith))) (alike_some _ (omega arith)))

-- ---- patterns
module _ (k : ℕ) (f g : List Lexeme → Read (Pat Span)) (agree : Agree k f g) where
  some_patterns_alike : (v : Spot) → Pass k (some_patterns_at f v) (some_patterns_at g v)
  unfolding some_patterns_at
  some_patterns_alike v ts h =
      alike_bind (separated_at m.Comma f (length ts) ts) (separated_at m.Comma g (length ts) ts) _ _ (separated_alike k f g agree m.Comma (length ts) ts h)
      (λ p i. alike_bind (after m.Closes p.1) (after m.Closes p.1) _ _ (alike_after m.Closes p.1) (λ r j. alike_if (few p.0) _ _ _ _ (alike_some _ (omega arith)) alike_none))

  pattern_group_alike : (v : Spot) → Pass k (pattern_group_at f v) (pattern_group_at g v)
  unfolding pattern_group_at
  pattern_group_alike v ts h = let d = drop_shorter ts in alike_if (sees m.Closes ts) _ _ _ _ (alike_some _ (omega arith)) (some_patterns_alike v ts h)

  marked_pattern_alike : (v : Spot) (a : Mark) → Pass k (marked_pattern_at f v a) (marked_pattern_at g v a)
  unfolding marked_pattern_at
  marked_pattern_alike v a ts h = alike_if (same_mark a m.Opens) _ _ _ _ (pattern_group_alike v ts h) (alike_if (same_mark a m.Underscore) _ _ _ _ (alike_some _ (omega arith)) alike_none)

  pub apat_alike : Agree (suc k) (apat_at f) (apat_at g)
  apat_alike [] h = alike_none
  apat_alike (t.Mark w a ∷ ts) h = marked_pattern_alike w a ts (omega arith)
  apat_alike (t.Variable w name ∷ ts) h = alike_some _ (omega arith)
  apat_alike (t.Constructor w name ∷ ts) h = alike_some _ (omega arith)
  apat_alike (t.Operator w name ∷ ts) h = alike_none
  apat_alike (t.Number w digits ∷ ts) h = alike_none

  pub apats_alike : Pass (suc k) (apats_at f) (apats_at g)
  unfolding apats_at
  apats_alike ts h = many_alike (suc k) (apat_at f) (apat_at g) apat_alike begins_apat (length ts) ts h

  built_alike : (w : Spot) (name : List ℕ) → Pass (suc k) (built_at f w name) (built_at g w name)
  unfolding built_at
  built_alike w name ts h = alike_bind (apats_at f ts) (apats_at g ts) _ _ (apats_alike ts h) (λ q i. alike_some _ (omega arith))

  pub pattern_over_alike : Agree (suc k) (pattern_over_at f) (pattern_over_at g)
  pattern_over_alike [] h = alike_none
  pattern_over_alike (t.Mark w a ∷ ts) h = marked_pattern_alike w a ts (omega arith)
  pattern_over_alike (t.Variable w name ∷ ts) h = alike_some _ (omega arith)
  pattern_over_alike (t.Constructor w name ∷ ts) h = built_alike w name ts (omega arith)
  pattern_over_alike (t.Operator w name ∷ ts) h = alike_none
  pattern_over_alike (t.Number w digits ∷ ts) h = alike_none
