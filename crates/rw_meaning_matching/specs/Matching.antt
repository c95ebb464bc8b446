-- What matching comes to, and what the variables of patterns stand for then (Haskell 2010 Report, section 3.17.2).
use Rattle.std.specs.Prelude.{◌≡◌, ℕ, Bool, true, false, List, ◌∷◌}
use Rattle.rw_scope_rules.specs.declared.binding.Bound.{Bound}
use Rattle.rw_tree.specs.Patterns.{Pattern, wildcard, variable_pattern, constructor_pattern, tuple_pattern, Patterns, more_patterns}
use Rattle.rw_tree.specs.Declarations.{Declaration}
use Rattle.rw_core.specs.Eventually.{Eventually}
use Rattle.rw_cover_matrix.specs.Values.{Value, built, Values, no_values, more_values}
use Rattle.rw_meaning.specs.Options.{Tried, passed_over, taken}
use Rattle.rw_meaning.specs.Results.{Thunk, Thunks}
use Rattle.rw_meaning.specs.Evaluation.{match, match_row, result_within}
use Rattle.rw_meaning_matching.specs.Standing.{StandForEach, values_joined}

-- the values that the variables of a pattern stand for where this value matches it, from left to right
abbrev mutual
  pub seen_by : {X : Type 0} → Pattern X → Value → Values
  seen_by (wildcard a) v = no_values
  seen_by (variable_pattern a x) v = more_values v no_values
  seen_by (constructor_pattern a c parts) (built place fields) = seen_by_parts parts fields
  seen_by (tuple_pattern a parts) (built place fields) = seen_by_parts parts fields
  seen_by _ _ = no_values

  pub seen_by_parts : {X : Type 0} → Patterns X → Values → Values
  seen_by_parts (more_patterns p ps) (more_values v vs) = values_joined (seen_by p v) (seen_by_parts ps vs)
  seen_by_parts _ _ = no_values

-- those of the patterns of a row
abbrev pub seen_by_row : {X : Type 0} → List (Pattern X) → Values → Values
seen_by_row (p ∷ ps) (more_values v vs) = values_joined (seen_by p v) (seen_by_row ps vs)
seen_by_row _ _ = no_values

-- within each budget from some one on, this is what comes of what is tried
abbrev pub ComesTo : {A : Type 0} → (ℕ → Tried A) → Tried A → Type 0
ComesTo within x = Eventually (λ n. within n ≡ x)

module _ (program : List (Declaration Bound)) where
  -- what is tried goes as a test says: it takes what stands for these values, one by one, or it is passed over. It is never stuck
  abbrev pub GoesAs : Bool → (ℕ → Tried Thunks) → Values → Type 0
  GoesAs true within seen = (xs : Thunks) × ComesTo within (taken xs) × StandForEach program xs seen
  GoesAs false within seen = ComesTo within passed_over

  -- a pattern against what is kept, and the patterns of a row against arguments, by the budget
  abbrev pub matched : Pattern Bound → Thunk → ℕ → Tried Thunks
  matched p t n = match program (result_within program n) p t

  abbrev pub row_matched : List (Pattern Bound) → Thunks → ℕ → Tried Thunks
  row_matched pats ts n = match_row program (result_within program n) pats ts
