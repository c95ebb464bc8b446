-- Trees that are cut off where there is no room: with the whole tree they have what a reader asks of it, they are the whole tree where there is room for
-- it, and they are deep where it is.
use Rattle.std.proofs.Common.{◌≡◌, ℕ, zero, suc, max, ◌≤◌, ◌<◌, Bool, true, false, cond, List, [], ◌∷◌, length, map, drop, Option, Some, None, refl, ap, ◌∙◌, arith}
use Rattle.rw_parser_grammar.specs.declared.lexeme.Mark.{Mark}
use Rattle.rw_parser_grammar.specs.declared.lexeme.Mark.TheVariants as m
use Rattle.rw_parser_grammar.specs.declared.lexeme.Lexeme.{Lexeme}
use Rattle.rw_parser_reading.specs.Frames.{most}
use Rattle.rw_parser_reading.specs.Read.{◌>>=◌, Read, sees, after, separated_at, many_at, entries_at, block_at}

-- nothing is asked
abbrev pub unseen : {A : Type 0} → A → Unit {0}
unseen a = tt

-- a tree that was read where there is so much room, and the whole tree
pub record Small {A X : Type 0} (frames : A → ℕ) (look : A → X) (room : ℕ) (small whole : A) : Type 0 where
  pub alike : look small ≡ look whole
  pub same : frames whole ≤ room → small ≡ whole
  pub deep : room ≤ frames whole → room ≤ frames small

pub small_self : {A X : Type 0} {frames : A → ℕ} {look : A → X} {room : ℕ} (a : A) → Small frames look room a a
small_self a = record { alike = refl; same = λ h. refl; deep = λ h. h }

-- made of one
pub small_one : {A B X Y : Type 0} {fa : A → ℕ} {la : A → X} {room : ℕ} {a b : A} (fb : B → ℕ) (lb : B → Y) (f : A → B) → ((x : A) → fb (f x) ≡ fa x) → lb (f a) ≡ lb (f b) → Small fa la room a b → Small fb lb room (f a) (f b)
small_one {fa = fa} {room = room} {a = a} {b = b} fb lb f e l s =
    record {
      alike = l;
      same = λ h. let i : fa b ≤ room = omega (arith, e b) in ap f (s.same i);
      deep = λ h. let i : room ≤ fa b = omega (arith, e b) in let j : room ≤ fa a = s.deep i in omega (arith, e a);
    }

max_deep : (room a b c d : ℕ) → (room ≤ b → room ≤ a) → (room ≤ d → room ≤ c) → room ≤ max b d → room ≤ max a c
max_deep room a b c d h k i = grind arith

-- made of two
pub small_two : {A B C X Y Z : Type 0} {fa : A → ℕ} {fb : B → ℕ} {la : A → X} {lb : B → Y} {room : ℕ} {a b : A} {c d : B} (fc : C → ℕ) (lc : C → Z) (f : A → B → C)
    → ((x : A) (y : B) → fc (f x y) ≡ max (fa x) (fb y)) → lc (f a c) ≡ lc (f b d) → Small fa la room a b → Small fb lb room c d → Small fc lc room (f a c) (f b d)
small_two {fa = fa} {fb = fb} {room = room} {a = a} {b = b} {c = c} {d = d} fc lc f e l s r =
    let whole = e b d in
    let small = e a c in
    record {
      alike = l;
      same = λ h. let i : fa b ≤ room = omega arith in let j : fb d ≤ room = omega arith in ap (λ z. f z c) (s.same i) ∙ ap (f b) (r.same j);
      deep = λ h. let i : room ≤ max (fa b) (fb d) = omega arith in let j = max_deep room (fa a) (fa b) (fb c) (fb d) s.deep r.deep i in omega arith;
    }

-- one frame more
pub small_last : {A X : Type 0} {frames : A → ℕ} {look : A → X} {room : ℕ} {a b : A} → Small frames look room a b → Small (λ x. suc (frames x)) look (suc room) a b
small_last {frames = frames} {room = room} {a = a} {b = b} s =
    record {
      alike = s.alike;
      same = λ h. let i : frames b ≤ room = omega arith in s.same i;
      deep = λ h. let i : room ≤ frames b = omega arith in let j : room ≤ frames a = s.deep i in omega arith;
    }

-- where there is no room for the first frame
pub small_nowhere : {A X : Type 0} {frames : A → ℕ} {look : A → X} {a b : A} → look a ≡ look b → 0 < frames b → Small frames look 0 a b
small_nowhere l g = record { alike = l; same = λ h. absurd (omega arith); deep = λ h. omega arith }

-- ---- what is read
-- two readers read nothing, or a tree that is cut off and the whole tree
pub data Together {A X : Type 0} (frames : A → ℕ) (look : A → X) (room : ℕ) : Read A → Read A → Type 0 where
  neither : Together frames look room None None
  both : (a b : A) (rest : List Lexeme) → Small frames look room a b → Together frames look room (Some (a, rest)) (Some (b, rest))

pub together_self : {A X : Type 0} {frames : A → ℕ} {look : A → X} {room : ℕ} (o : Read A) → Together frames look room o o
together_self None = neither
together_self (Some p) = both p.0 p.0 p.1 (small_self p.0)

pub together_bind : {A B X Y : Type 0} {fa : A → ℕ} {la : A → X} {fb : B → ℕ} {lb : B → Y} {m n : ℕ} (o p : Read A) (f g : A × List Lexeme → Read B) → Together fa la m o p
    → ((a b : A) (rest : List Lexeme) → Small fa la m a b → Together fb lb n (f (a, rest)) (g (b, rest))) → Together fb lb n (o >>= f) (p >>= g)
together_bind _ _ f g neither k = neither
together_bind _ _ f g (both a b rest s) k = k a b rest s

-- behind what both read
pub same_bind : {A X B : Type 0} {frames : A → ℕ} {look : A → X} {room : ℕ} (o : Option B) (f g : B → Read A) → ((b : B) → Together frames look room (f b) (g b)) → Together frames look room (o >>= f) (o >>= g)
same_bind None f g k = neither
same_bind (Some b) f g k = k b

pub together_if : {A X : Type 0} {frames : A → ℕ} {look : A → X} {room : ℕ} (b : Bool) (x y z w : Read A) → Together frames look room x y → Together frames look room z w → Together frames look room (cond b x z) (cond b y w)
together_if true x y z w h k = h
together_if false x y z w h k = k

-- where each asks its own tree
pub together_when : {A X : Type 0} {frames : A → ℕ} {look : A → X} {room : ℕ} (b c : Bool) (x y z w : Read A) → b ≡ c → Together frames look room x y → Together frames look room z w
    → Together frames look room (cond b x z) (cond c y w)
together_when true true x y z w e h k = h
together_when true false x y z w e h k = absurd (cc)
together_when false true x y z w e h k = absurd (cc)
together_when false false x y z w e h k = k

-- ---- lists
pub map_same : {A X : Type 0} (look : A → X) (a b : A) (xs ys : List A) → look a ≡ look b → map look xs ≡ map look ys → map look (a ∷ xs) ≡ map look (b ∷ ys)
map_same look a b xs ys e h = ap (λ z. z ∷ map look xs) e ∙ ap (λ z. look b ∷ z) h

pub small_more : {A X : Type 0} {frames : A → ℕ} {look : A → X} {room : ℕ} {a b : A} {others more : List A} → Small frames look room a b → Small (most frames) (map look) room others more
    → Small (most frames) (map look) room (a ∷ others) (b ∷ more)
small_more {frames = frames} {look = look} {a = a} {b = b} {others = others} {more = more} s r =
    small_two (most frames) (map look) (λ x xs. x ∷ xs) (λ x xs. refl) (map_same look a b others more s.alike r.alike) s r

module _ {A X : Type 0} (frames : A → ℕ) (look : A → X) (room : ℕ) (f g : List Lexeme → Read A) (t : (ts : List Lexeme) → Together frames look room (f ts) (g ts)) where
  pub separated_together : (between : Mark) (n : ℕ) (ts : List Lexeme) → Together (most frames) (map look) room (separated_at between f n ts) (separated_at between g n ts)
  unfolding separated_at
  separated_together between zero ts = neither
  separated_together between (suc n) ts =
      together_bind (f ts) (g ts) _ _ (t ts)
      (λ a b rest s. together_if (sees between rest) _ _ _ _
      (together_bind (separated_at between f n (drop 1 rest)) (separated_at between g n (drop 1 rest)) _ _ (separated_together between n (drop 1 rest)) (λ xs ys next r. both (a ∷ xs) (b ∷ ys) next (small_more s r)))
      (both (a ∷ []) (b ∷ []) rest (small_more s (small_self []))))

  pub many_together : (begins : List Lexeme → Bool) (n : ℕ) (ts : List Lexeme) → Together (most frames) (map look) room (many_at begins f n ts) (many_at begins g n ts)
  unfolding many_at
  many_together begins zero ts = both [] [] ts (small_self [])
  many_together begins (suc n) ts =
      together_if (begins ts) _ _ _ _
      (together_bind (f ts) (g ts) _ _ (t ts)
      (λ a b rest s. together_bind (many_at begins f n rest) (many_at begins g n rest) _ _ (many_together begins n rest) (λ xs ys next r. both (a ∷ xs) (b ∷ ys) next (small_more s r))))
      (both [] [] ts (small_self []))

  pub entries_together : (n : ℕ) (ts : List Lexeme) → Together (most frames) (map look) room (entries_at f n ts) (entries_at g n ts)
  unfolding entries_at
  entries_together zero ts = neither
  entries_together (suc n) ts =
      together_if (sees m.ClosesBlock ts) _ _ _ _ (both [] [] (drop 1 ts) (small_self []))
      (together_if (sees m.Semicolon ts) _ _ _ _ (entries_together n (drop 1 ts))
      (together_bind (f ts) (g ts) _ _ (t ts)
      (λ a b rest s. together_if (sees m.ClosesBlock rest) _ _ _ _ (both (a ∷ []) (b ∷ []) (drop 1 rest) (small_more s (small_self [])))
      (same_bind (after m.Semicolon rest) _ _
      (λ x. together_bind (entries_at f n x) (entries_at g n x) _ _ (entries_together n x) (λ xs ys next r. both (a ∷ xs) (b ∷ ys) next (small_more s r)))))))

  pub block_together : (ts : List Lexeme) → Together (most frames) (map look) room (block_at f ts) (block_at g ts)
  unfolding block_at
  block_together ts = same_bind (after m.OpensBlock ts) _ _ (λ x. entries_together (length x) x)
