-- Patterns are read exactly.
use Rattle.std.proofs.Common.{◌≡◌, ℕ, zero, suc, ◌<◌, true, false, List, [], ◌∷◌, length, drop, Some, None, refl, sym, subst, ◌∙◌, arith, inl, inr}
use Rattle.rw_base.specs.declared.place.Span.{Span}
use Rattle.rw_tree.specs.declared.pattern.Pat.{Pat}
use Rattle.rw_tree.specs.declared.pattern.Pat.TheVariants as p
use Rattle.rw_parser_grammar.specs.declared.lexeme.Mark.{Mark}
use Rattle.rw_parser_grammar.specs.declared.lexeme.Mark.TheVariants as m
use Rattle.rw_parser_grammar.specs.declared.lexeme.Spot.{Spot}
use Rattle.rw_parser_grammar.specs.declared.lexeme.Lexeme.{Lexeme}
use Rattle.rw_parser_grammar.specs.declared.lexeme.Lexeme.TheVariants as t
use Rattle.rw_parser_grammar.specs.Lexemes.{next_spot, span_at}
use Rattle.rw_parser_grammar.specs.Lists.{IsSeparated, IsMany, no_more, one_more}
use Rattle.rw_parser_grammar.specs.Types.{few}
use Rattle.rw_parser_grammar.specs.Patterns.{grouped_pattern, IsApat, a_variable_pattern, a_wildcard, a_constant_pattern, a_unit_pattern, a_pattern_group, IsPatternOver, an_apat, a_constructor_pattern, IsPattern}
use Rattle.rw_parser_reading.specs.Read.{Read, same_mark, sees, after, separated_at}
use Rattle.rw_parser_reading.specs.ReadTypes.{ends_pattern, begins_apat, some_patterns_at, pattern_group_at, marked_pattern_at, apat_at, apats_at, built_at, pattern_over_at, pattern_at}
use Rattle.rw_parser_reading.proofs.ReadExact.{bind_some, chosen, moved, not_true, is_same, same_self, seen_is, after_is, after_mark, always, Exact, Runs, separated_sound, separated_read, separated_shorter, first_has, many_runs}

-- ---- what may follow
comma_ends : (w : Spot) (rest : List Lexeme) → ends_pattern (t.Mark w m.Comma ∷ rest) ≡ true
unfolding same_mark
comma_ends w rest = refl

closes_ends : (w : Spot) (rest : List Lexeme) → ends_pattern (t.Mark w m.Closes ∷ rest) ≡ true
unfolding same_mark
closes_ends w rest = refl

closes_no_comma : (w : Spot) (rest : List Lexeme) → sees m.Comma (t.Mark w m.Closes ∷ rest) ≡ false
unfolding same_mark
closes_no_comma w rest = refl

module _ (inner : List Lexeme → Read (Pat Span)) (Inner : List Lexeme → Pat Span → List Lexeme → Type 0) (exact : Exact inner Inner ends_pattern)
    (opens : (ts : List Lexeme) (pat : Pat Span) (rest : List Lexeme) → Inner ts pat rest → sees m.Closes ts ≡ false) where
  -- ---- apat
  some_sound : (w : Spot) (ts : List Lexeme) (q : Pat Span × List Lexeme) → some_patterns_at inner w ts ≡ Some q → IsApat Inner (t.Mark w m.Opens ∷ ts) q.0 q.1
  unfolding some_patterns_at
  some_sound w ts q e =
      let a = bind_some (separated_at m.Comma inner (length ts) ts) _ q e in
      let r = bind_some (after m.Closes a.0.1) _ q a.2 in
      elim (chosen (few a.0.0) _ _ _ r.2) [
        | inl h ↦ moved (λ z. IsApat Inner (t.Mark w m.Opens ∷ ts) z.0 z.1) _ q h.1
            (a_pattern_group w (next_spot a.0.1) ts r.0 a.0.0
            (subst (IsSeparated m.Comma Inner ts a.0.0) (after_is m.Closes a.0.1 r.0 r.1) (separated_sound m.Comma inner Inner ends_pattern exact comma_ends (length ts) ts a.0 a.1)) h.0)
        | inr h ↦ absurd (let n : None ≡ Some q = h.1 in cc)
      ]

  group_sound : (w : Spot) (ts : List Lexeme) (q : Pat Span × List Lexeme) → pattern_group_at inner w ts ≡ Some q → IsApat Inner (t.Mark w m.Opens ∷ ts) q.0 q.1
  unfolding pattern_group_at
  group_sound w ts q e =
      elim (chosen (sees m.Closes ts) _ _ _ e) [
        | inl h ↦ subst (λ z. IsApat Inner (t.Mark w m.Opens ∷ z) q.0 q.1) (sym (seen_is m.Closes ts h.0))
            (moved (λ z. IsApat Inner (t.Mark w m.Opens ∷ t.Mark (next_spot ts) m.Closes ∷ drop 1 ts) z.0 z.1) _ q h.1 (a_unit_pattern w (next_spot ts) (drop 1 ts)))
        | inr h ↦ some_sound w ts q h.1
      ]

  marked_sound : (w : Spot) (a : Mark) (ts : List Lexeme) (q : Pat Span × List Lexeme) → marked_pattern_at inner w a ts ≡ Some q → IsApat Inner (t.Mark w a ∷ ts) q.0 q.1
  unfolding marked_pattern_at
  marked_sound w a ts q e =
      elim (chosen (same_mark a m.Opens) _ _ _ e) [
        | inl h ↦ subst (λ z. IsApat Inner (t.Mark w z ∷ ts) q.0 q.1) (sym (is_same a m.Opens h.0)) (group_sound w ts q h.1)
        | inr h ↦ elim (chosen (same_mark a m.Underscore) _ _ _ h.1) [
          | inl k ↦ subst (λ z. IsApat Inner (t.Mark w z ∷ ts) q.0 q.1) (sym (is_same a m.Underscore k.0)) (moved (λ z. IsApat Inner (t.Mark w m.Underscore ∷ ts) z.0 z.1) _ q k.1 (a_wildcard w ts))
          | inr k ↦ absurd (let n : None ≡ Some q = k.1 in cc)
        ]
      ]

  pub apat_sound : (ts : List Lexeme) (q : Pat Span × List Lexeme) → apat_at inner ts ≡ Some q → IsApat Inner ts q.0 q.1
  apat_sound [] q e = absurd (cc)
  apat_sound (t.Mark w a ∷ ts) q e = marked_sound w a ts q e
  apat_sound (t.Variable w name ∷ ts) q e = moved (λ z. IsApat Inner (t.Variable w name ∷ ts) z.0 z.1) _ q e (a_variable_pattern w name ts)
  apat_sound (t.Constructor w name ∷ ts) q e = moved (λ z. IsApat Inner (t.Constructor w name ∷ ts) z.0 z.1) _ q e (a_constant_pattern w name ts)
  apat_sound (t.Operator w name ∷ ts) q e = absurd (cc)
  apat_sound (t.Number w digits ∷ ts) q e = absurd (cc)

  opened_read : (w : Spot) (ts : List Lexeme) → marked_pattern_at inner w m.Opens ts ≡ pattern_group_at inner w ts
  unfolding marked_pattern_at
  opened_read w ts = rw (same_self m.Opens)

  wildcard_read : (w : Spot) (ts : List Lexeme) → marked_pattern_at inner w m.Underscore ts ≡ Some (p.Wild (span_at w ts), ts)
  unfolding marked_pattern_at same_mark
  wildcard_read w ts = refl

  unit_read : (v w : Spot) (rest : List Lexeme) → pattern_group_at inner v (t.Mark w m.Closes ∷ rest) ≡ Some (p.Tuple (span_at v rest) [], rest)
  unfolding pattern_group_at
  unit_read v w rest = rw (same_self m.Closes)

  group_read : (v w : Spot) (ts rest : List Lexeme) (parts : List (Pat Span)) → sees m.Closes ts ≡ false → separated_at m.Comma inner (length ts) ts ≡ Some (parts, t.Mark w m.Closes ∷ rest) → few parts ≡ true
      → pattern_group_at inner v ts ≡ Some (grouped_pattern (span_at v rest) parts, rest)
  unfolding pattern_group_at some_patterns_at
  group_read v w ts rest parts c h f = rw (c, h, after_mark m.Closes w rest, f)

  grouped_read : (v w : Spot) (ts rest : List Lexeme) (parts : List (Pat Span)) → IsSeparated m.Comma Inner ts parts (t.Mark w m.Closes ∷ rest) → few parts ≡ true
      → marked_pattern_at inner v m.Opens ts ≡ Some (grouped_pattern (span_at v rest) parts, rest)
  grouped_read v w ts rest parts d f =
      opened_read v ts
      ∙ group_read v w ts rest parts (first_has (sees m.Closes) false opens d)
      (separated_read m.Comma inner Inner ends_pattern exact comma_ends d (length ts) (omega arith) (closes_no_comma w rest) (closes_ends w rest)) f

  pub apat_complete : (ts : List Lexeme) (pat : Pat Span) (rest : List Lexeme) → IsApat Inner ts pat rest → always rest ≡ true → apat_at inner ts ≡ Some (pat, rest)
  apat_complete _ _ _ (a_variable_pattern w name rest) s = refl
  apat_complete _ _ _ (a_wildcard w rest) s = wildcard_read w rest
  apat_complete _ _ _ (a_constant_pattern w name rest) s = refl
  apat_complete _ _ _ (a_unit_pattern v w rest) s = opened_read v (t.Mark w m.Closes ∷ rest) ∙ unit_read v w rest
  apat_complete _ _ _ (a_pattern_group v w ts rest parts d f) s = grouped_read v w ts rest parts d f

  pub apat_shorter : (ts : List Lexeme) (pat : Pat Span) (rest : List Lexeme) → IsApat Inner ts pat rest → length rest < length ts
  apat_shorter _ _ _ (a_variable_pattern w name rest) = omega arith
  apat_shorter _ _ _ (a_wildcard w rest) = omega arith
  apat_shorter _ _ _ (a_constant_pattern w name rest) = omega arith
  apat_shorter _ _ _ (a_unit_pattern v w rest) = omega arith
  apat_shorter _ _ _ (a_pattern_group v w ts rest parts d f) = let h = separated_shorter m.Comma inner Inner ends_pattern exact comma_ends d in omega arith

  pub apat_exact : Exact (apat_at inner) (IsApat Inner) always
  apat_exact = record { sound = apat_sound; complete = apat_complete; shorter = apat_shorter }

  pub apat_begins : (ts : List Lexeme) (pat : Pat Span) (rest : List Lexeme) → IsApat Inner ts pat rest → begins_apat ts ≡ true
  unfolding same_mark
  apat_begins _ _ _ (a_variable_pattern w name rest) = refl
  apat_begins _ _ _ (a_wildcard w rest) = refl
  apat_begins _ _ _ (a_constant_pattern w name rest) = refl
  apat_begins _ _ _ (a_unit_pattern v w rest) = refl
  apat_begins _ _ _ (a_pattern_group v w ts rest parts d f) = refl

  pub apats_runs : Runs (apats_at inner) (IsMany (IsApat Inner)) ends_pattern
  unfolding apats_at
  apats_runs = many_runs begins_apat (apat_at inner) (IsApat Inner) always apat_exact apat_begins (λ ts b. refl) ends_pattern (λ rest e. not_true _ e) (λ rest e. refl)

  -- ---- pattern
  built_of : (w : Spot) (name : List ℕ) (ts rest : List Lexeme) (parts : List (Pat Span)) → IsMany (IsApat Inner) ts parts rest → IsPatternOver Inner (t.Constructor w name ∷ ts) (p.Con (span_at w rest) name parts) rest
  built_of w name _ _ _ (no_more ts) = an_apat (t.Constructor w name ∷ ts) ts (p.Con (span_at w ts) name []) (a_constant_pattern w name ts)
  built_of w name _ _ _ (one_more ts mid rest a others d ds) = a_constructor_pattern w name ts rest a others (one_more ts mid rest a others d ds)

  built_sound : (w : Spot) (name : List ℕ) (ts : List Lexeme) (q : Pat Span × List Lexeme) → built_at inner w name ts ≡ Some q → IsPatternOver Inner (t.Constructor w name ∷ ts) q.0 q.1
  unfolding built_at
  built_sound w name ts q e =
      let a = bind_some (apats_at inner ts) _ q e in
      moved (λ z. IsPatternOver Inner (t.Constructor w name ∷ ts) z.0 z.1) _ q a.2 (built_of w name ts a.0.1 a.0.0 (apats_runs.sound ts a.0 a.1))

  over_sound : (ts : List Lexeme) (q : Pat Span × List Lexeme) → pattern_over_at inner ts ≡ Some q → IsPatternOver Inner ts q.0 q.1
  over_sound [] q e = absurd (cc)
  over_sound (t.Mark w a ∷ ts) q e = an_apat (t.Mark w a ∷ ts) q.1 q.0 (marked_sound w a ts q e)
  over_sound (t.Variable w name ∷ ts) q e = moved (λ z. IsPatternOver Inner (t.Variable w name ∷ ts) z.0 z.1) _ q e (an_apat (t.Variable w name ∷ ts) ts (p.Var (span_at w ts) name) (a_variable_pattern w name ts))
  over_sound (t.Constructor w name ∷ ts) q e = built_sound w name ts q e
  over_sound (t.Operator w name ∷ ts) q e = absurd (cc)
  over_sound (t.Number w digits ∷ ts) q e = absurd (cc)

  built_read : (w : Spot) (name : List ℕ) (ts rest : List Lexeme) (parts : List (Pat Span)) → apats_at inner ts ≡ Some (parts, rest) → built_at inner w name ts ≡ Some (p.Con (span_at w rest) name parts, rest)
  unfolding built_at
  built_read w name ts rest parts h = rw h

  apat_read : (ts : List Lexeme) (pat : Pat Span) (rest : List Lexeme) → IsApat Inner ts pat rest → ends_pattern rest ≡ true → pattern_over_at inner ts ≡ Some (pat, rest)
  apat_read _ _ _ (a_variable_pattern w name rest) s = refl
  apat_read _ _ _ (a_wildcard w rest) s = wildcard_read w rest
  apat_read _ _ _ (a_constant_pattern w name rest) s = built_read w name rest rest [] (apats_runs.complete rest [] rest (no_more rest) s)
  apat_read _ _ _ (a_unit_pattern v w rest) s = opened_read v (t.Mark w m.Closes ∷ rest) ∙ unit_read v w rest
  apat_read _ _ _ (a_pattern_group v w ts rest parts d f) s = grouped_read v w ts rest parts d f

  over_complete : (ts : List Lexeme) (pat : Pat Span) (rest : List Lexeme) → IsPatternOver Inner ts pat rest → ends_pattern rest ≡ true → pattern_over_at inner ts ≡ Some (pat, rest)
  over_complete _ _ _ (an_apat ts rest pat d) s = apat_read ts pat rest d s
  over_complete _ _ _ (a_constructor_pattern w name ts rest part parts ds) s = built_read w name ts rest (part ∷ parts) (apats_runs.complete ts (part ∷ parts) rest ds s)

  over_shorter : (ts : List Lexeme) (pat : Pat Span) (rest : List Lexeme) → IsPatternOver Inner ts pat rest → length rest < length ts
  over_shorter _ _ _ (an_apat ts rest pat d) = apat_shorter ts pat rest d
  over_shorter _ _ _ (a_constructor_pattern w name ts rest part parts ds) = let h = apats_runs.shorter ts (part ∷ parts) rest ds in omega arith

  pub over_exact : Exact (pattern_over_at inner) (IsPatternOver Inner) ends_pattern
  over_exact = record { sound = over_sound; complete = over_complete; shorter = over_shorter }

  apat_opens : (ts : List Lexeme) (pat : Pat Span) (rest : List Lexeme) → IsApat Inner ts pat rest → sees m.Closes ts ≡ false
  unfolding same_mark
  apat_opens _ _ _ (a_variable_pattern w name rest) = refl
  apat_opens _ _ _ (a_wildcard w rest) = refl
  apat_opens _ _ _ (a_constant_pattern w name rest) = refl
  apat_opens _ _ _ (a_unit_pattern v w rest) = refl
  apat_opens _ _ _ (a_pattern_group v w ts rest parts d f) = refl

  pub over_opens : (ts : List Lexeme) (pat : Pat Span) (rest : List Lexeme) → IsPatternOver Inner ts pat rest → sees m.Closes ts ≡ false
  over_opens _ _ _ (an_apat ts rest pat d) = apat_opens ts pat rest d
  over_opens _ _ _ (a_constructor_pattern w name ts rest part parts ds) = refl

-- ---- at each level
abbrev pub PatternLevel : ℕ → Type 0
PatternLevel n = Exact (pattern_at n) (IsPattern n) ends_pattern × ((ts : List Lexeme) (pat : Pat Span) (rest : List Lexeme) → IsPattern n ts pat rest → sees m.Closes ts ≡ false)

level_zero : PatternLevel 0
unfolding pattern_at
level_zero = (record { sound = λ ts q e. absurd (cc); complete = λ ts pat rest d s. absurd d; shorter = λ ts pat rest d. absurd d }, λ ts pat rest d. absurd d)

level_next : (n : ℕ) → PatternLevel n → PatternLevel (suc n)
unfolding pattern_at
level_next n h = (over_exact (pattern_at n) (IsPattern n) h.0 h.1, over_opens (pattern_at n) (IsPattern n) h.0 h.1)

pub pattern_level : (n : ℕ) → PatternLevel n
pattern_level zero = level_zero
pattern_level (suc n) = level_next n (pattern_level n)
