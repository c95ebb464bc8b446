-- Lists of facts, options that hold something, and patterns on values that fit.
use Rattle.std.proofs.Common.{◌≡◌, ℕ, zero, suc, nat_eq, Bool, true, false, if◌then◌else◌, List, [], ◌∷◌, ◌++◌, length, Option, Some, None, refl, arith, ap, subst}
use Rattle.std.proofs.lemmas.Bool.Decides.{nat_tests}
use Rattle.rw_core.specs.Values.{Val, Vals, val, none, more, vals}
use Rattle.rw_core.specs.Options.{◌>>=◌}
use Rattle.rw_meaning.specs.Options.{Tried, stuck, passed_over, taken, and_try}
use Rattle.rw_core_flat.specs.Terms.{FlatPattern, any_pattern, bound_pattern, built_pattern, FlatPatterns, no_patterns, more_patterns}
use Rattle.rw_core_flat.specs.Meaning.{are_as_many, matched, parts_matched, row_matched, value_at}
use Rattle.std.specs.List.{AllByRecursion}
use Rattle.rw_core_flat.specs.WellTyped.{DataTypes, Fits, FieldsFit, AllFit, type_at, pattern_types, patterns_types}

pub first : {A : Type 0} (P : A → Type 0) (xs ys : List A) → AllByRecursion P (xs ++ ys) → AllByRecursion P xs
first P [] ys h = tt
first P (x ∷ xs) ys h = (h.0, first P xs ys h.1)

pub second : {A : Type 0} (P : A → Type 0) (xs ys : List A) → AllByRecursion P (xs ++ ys) → AllByRecursion P ys
second P [] ys h = h
second P (x ∷ xs) ys h = second P xs ys h.1

pub every_map : {A : Type 0} (P Q : A → Type 0) → ((a : A) → P a → Q a) → (xs : List A) → AllByRecursion P xs → AllByRecursion Q xs
every_map P Q f [] h = tt
every_map P Q f (x ∷ xs) h = (f x h.0, every_map P Q f xs h.1)

pub every_joined : {A : Type 0} (P : A → Type 0) (xs ys : List A) → AllByRecursion P xs → AllByRecursion P ys → AllByRecursion P (xs ++ ys)
every_joined P [] ys h k = k
every_joined P (x ∷ xs) ys h k = (h.0, every_joined P xs ys h.1 k)

pub then_it : {A B : Type 0} (x : Option A) (f : A → Option B) (a : A) (b : B) → x ≡ Some a → f a ≡ Some b → (x >>= f) ≡ Some b
then_it x f a b e h = rw e h

-- an option that goes on holds something
pub held_first : {A B : Type 0} (x : Option A) (f : A → Option B) (b : B) → (x >>= f) ≡ Some b → (a : A) × (x ≡ Some a) × (f a ≡ Some b)
held_first None f b e = absurd (cc)
held_first (Some a) f b e = (a, refl, e)

pub same_held : {A : Type 0} (x : Option A) (a b : A) → x ≡ Some a → x ≡ Some b → a ≡ b
same_held x a b e h = cc

equal_numbers : (a b : ℕ) → nat_eq a b ≡ true → a ≡ b
equal_numbers a b e = grind (arith, nat_tests)

pub same_number : (a b : ℕ) → a ≡ b → nat_eq a b ≡ true
same_number a b e = grind (arith, nat_tests)

module _ (types : DataTypes) where
  pub all_joined : (g : List ℕ) (env : List Val) (ds : List ℕ) (vs : List Val) → AllFit types g env → AllFit types ds vs → AllFit types (g ++ ds) (env ++ vs)
  all_joined [] [] ds vs h k = k
  all_joined [] (v ∷ env) ds vs h k = absurd h
  all_joined (d ∷ g) [] ds vs h k = absurd h
  all_joined (d ∷ g) (v ∷ env) ds vs h k = (h.0, all_joined g env ds vs h.1 k)

  pub all_long : (ds : List ℕ) (vs : List Val) → AllFit types ds vs → length vs ≡ length ds
  all_long [] [] h = refl
  all_long [] (v ∷ vs) h = absurd h
  all_long (d ∷ ds) [] h = absurd h
  all_long (d ∷ ds) (v ∷ vs) h = ap suc (all_long ds vs h.1)

  pub looked_up : (k : ℕ) (g : List ℕ) (env : List Val) (d : ℕ) → AllFit types g env → type_at k g ≡ Some d → (v : Val) × (value_at k env ≡ Some v) × Fits types d v
  looked_up k [] env d h e = absurd (cc)
  looked_up k (c ∷ g) [] d h e = absurd h
  looked_up zero (c ∷ g) (v ∷ env) d h e = let same : c ≡ d = cc in (v, refl, subst (λ z. Fits types z v) same h.0)
  looked_up (suc k) (c ∷ g) (v ∷ env) d h e = looked_up k g env d h.1 e

  pub as_fields : (ds : List ℕ) (vs : List Val) → AllFit types ds vs → FieldsFit types ds (vals vs)
  as_fields [] [] h = tt
  as_fields [] (v ∷ vs) h = absurd h
  as_fields (d ∷ ds) [] h = absurd h
  as_fields (d ∷ ds) (v ∷ vs) h = (h.0, as_fields ds vs h.1)

  -- == Patterns ==

  -- passed over, or taken with values that fit
  abbrev pub Matches : List ℕ → Tried (List Val) → Type 0
  Matches ds stuck = ⊥
  Matches ds passed_over = Unit {0}
  Matches ds (taken xs) = AllFit types ds xs

  matches_on : (ds es : List ℕ) (x : Tried (List Val)) (f : List Val → Tried (List Val)) → Matches ds x → ((xs : List Val) → AllFit types ds xs → Matches es (f xs)) → Matches es (and_try x f)
  matches_on ds es stuck f h k = absurd h
  matches_on ds es passed_over f h k = tt
  matches_on ds es (taken xs) f h k = k xs h

  matches_both : (ds es fs : List ℕ) (x y : Tried (List Val)) → ds ++ es ≡ fs → Matches ds x → Matches es y → Matches fs (and_try x (λ xs. and_try y (λ ys. taken (xs ++ ys))))
  matches_both ds es fs x y e h k = matches_on ds fs x _ h (λ xs a. matches_on es fs y _ k (λ ys b. subst (λ z. AllFit types z (xs ++ ys)) e (all_joined ds xs es ys a b)))

  -- patterns that have types are as many as the values that fit
  as_many : (ps : FlatPatterns) (ds es : List ℕ) → patterns_types types ps ds ≡ Some es → (vs : Vals) → FieldsFit types ds vs → are_as_many ps vs ≡ true
  as_many no_patterns [] es e none h = refl
  as_many no_patterns [] es e (more v vs) h = absurd h
  as_many no_patterns (d ∷ ds) es e vs h = absurd (cc)
  as_many (more_patterns p ps) [] es e vs h = absurd (cc)
  as_many (more_patterns p ps) (d ∷ ds) es e none h = absurd h
  as_many (more_patterns p ps) (d ∷ ds) es e (more v vs) h =
      let f = held_first (pattern_types types p d) _ es e in
      let g = held_first (patterns_types types ps ds) _ es f.2 in
      as_many ps ds g.0 g.1 vs h.1

  -- they match where their number is asked first, too
  counted : (es : List ℕ) (b : Bool) (x : Tried (List Val)) → b ≡ true → Matches es x → Matches es (if b then x else stuck)
  counted es true x e h = h
  counted es false x e h = absurd (cc)

  mutual
    pub pattern_matches : (p : FlatPattern) (d : ℕ) (es : List ℕ) → pattern_types types p d ≡ Some es → (v : Val) → Fits types d v → Matches es (matched p v)
    pattern_matches any_pattern d es e v h = let k : [] ≡ es = cc in subst (λ z. AllFit types z []) k tt
    pattern_matches bound_pattern d es e v h = let k : d ∷ [] ≡ es = cc in subst (λ z. AllFit types z (v ∷ [])) k (h, tt)
    pattern_matches (built_pattern place ps) d es e (val tag vs) h =
        let f = held_first (types.fields d place) (patterns_types types ps) es e in
        by_place (nat_eq tag place) refl (λ same. let k = subst (λ z. FieldsFit types z vs) (same_held (types.fields d place) h.0 f.0 (subst (λ z. types.fields d z ≡ Some h.0) same h.1) f.1) h.2 in
        counted es (are_as_many ps vs) (parts_matched ps vs) (as_many ps f.0 es f.2 vs k) (parts_match ps f.0 es f.2 vs k))
      where
        by_place : (b : Bool) → nat_eq tag place ≡ b → (tag ≡ place → Matches es (if are_as_many ps vs then parts_matched ps vs else stuck)) → Matches es (if b then (if are_as_many ps vs then parts_matched ps vs else stuck) else passed_over)
        by_place true e k = k (equal_numbers tag place e)
        by_place false e k = tt

    pub parts_match : (ps : FlatPatterns) (ds es : List ℕ) → patterns_types types ps ds ≡ Some es → (vs : Vals) → FieldsFit types ds vs → Matches es (parts_matched ps vs)
    parts_match no_patterns [] es e none h = let k : [] ≡ es = cc in subst (λ z. AllFit types z []) k tt
    parts_match no_patterns [] es e (more v vs) h = absurd h
    parts_match no_patterns (d ∷ ds) es e vs h = absurd (cc)
    parts_match (more_patterns p ps) [] es e vs h = absurd (cc)
    parts_match (more_patterns p ps) (d ∷ ds) es e none h = absurd h
    parts_match (more_patterns p ps) (d ∷ ds) es e (more v vs) h =
        let f = held_first (pattern_types types p d) _ es e in
        let g = held_first (patterns_types types ps ds) _ es f.2 in
        let k : f.0 ++ g.0 ≡ es = cc in
        matches_both f.0 g.0 es (matched p v) (parts_matched ps vs) k (pattern_matches p d f.0 f.1 v h.0) (parts_match ps ds g.0 g.1 vs h.1)

  pub row_matches : (ps : FlatPatterns) (ds es : List ℕ) → patterns_types types ps ds ≡ Some es → (vs : List Val) → AllFit types ds vs → Matches es (row_matched ps vs)
  row_matches ps ds es e vs h =
      let k = as_fields ds vs h in
      counted es (are_as_many ps (vals vs)) (parts_matched ps (vals vs)) (as_many ps ds es e (vals vs) k) (parts_match ps ds es e (vals vs) k)
