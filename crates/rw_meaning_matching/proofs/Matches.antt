-- Matching goes as the matrix says.
use Rattle.std.proofs.Common.{◌≡◌, refl, sym, subst, ◌∙◌, inl, inr, arith, ℕ, zero, suc, ◌<◌, nat_eq, Bool, true, false, ◌&&◌, if◌then◌else◌, List, [], ◌∷◌, length, Option, Some, None}
use Rattle.std.proofs.lemmas.Bool.{eqb-true, eqb-false, eq-eqb}
use Rattle.rw_types_solving.proofs.Laws.{true_or_false}
use Rattle.rw_scope_rules.specs.declared.binding.Binding.{Binding}
use Rattle.rw_scope_rules.specs.declared.binding.Binding.TheVariants.{Declared, Operation as Operates, Constructor as Constructs, Local}
use Rattle.rw_scope_rules.specs.declared.binding.Bound.{Bound}
use Rattle.rw_tree.specs.Patterns.{Pattern, wildcard, variable_pattern, constructor_pattern, tuple_pattern, Patterns, no_patterns, more_patterns}
use Rattle.rw_tree.specs.Declarations.{Declaration}
use Rattle.rw_core.proofs.Eventually.{always}
use Rattle.rw_cover_matrix.specs.Values.{Shape, opaque, data_of, Shapes, no_shapes, more_shapes, Choices, one_choice, more_choices, choices_count, fields_of, Value, opaque_value, built, Values, no_values, more_values, IsValue, AreValues}
use Rattle.rw_cover_matrix.specs.Matching.{matches, parts_match, row_matches}
use Rattle.rw_cover.specs.Rows.{built_by, matrix_pattern, matrix_parts, matrix_row}
use Rattle.rw_meaning.specs.Options.{passed_over, taken, and_try, tried}
use Rattle.rw_meaning.specs.Results.{datum, Thunk, Thunks, nothing, and_then, how_many}
use Rattle.rw_meaning.specs.Evaluation.{force, match_parts, result_within, fields_if}
use Rattle.rw_meaning.specs.Evaluation.{fields_of as tuple_fields}
use Rattle.rw_meaning_matching.specs.Standing.{StandsFor, StandForEach, AreFirstValues}
use Rattle.rw_meaning_matching.specs.Exact.{IsConstructorAt, IsExactly, AreExactly, IsExactRow}
use Rattle.rw_meaning_matching.specs.Matching.{seen_by, seen_by_parts, seen_by_row, GoesAs, matched, row_matched}
use Rattle.rw_meaning_matching.proofs.Going.{both_go, result_goes}

-- evaluation compares the tag with the place, and the matrix the place with the tag
same_test : (place tag : ℕ) → nat_eq tag place ≡ nat_eq place tag
same_test place tag = elim (true_or_false (nat_eq tag place)) [
  | inl e ↦ e ∙ sym (eq-eqb place tag (sym (eqb-true tag place e)))
  | inr e ↦ e ∙ sym (elim (true_or_false (nat_eq place tag)) [
    | inl f ↦ absurd (eqb-false tag place e (sym (eqb-true place tag f)))
    | inr f ↦ f
  ])
]

module _ (program : List (Declaration Bound)) (counts : List ℕ) where
  -- the parts of a pattern go as the matrix says, whatever stands for the fields
  abbrev PartsGo : Patterns Bound → Type 0
  PartsGo parts = (columns : Shapes) (fields : Values) (ts : Thunks) → AreExactly parts columns → AreValues fields columns → StandForEach program ts fields
      → GoesAs program (parts_match (matrix_parts counts parts) fields) (λ n. match_parts program (result_within program n) parts ts) (seen_by_parts parts fields)

  -- a constructor, once what is matched is a datum: its tag is compared first
  tag_goes : (same : Bool) (parts : Patterns Bound) (fields : Values) (ts : Thunks)
      → (same ≡ true → GoesAs program (parts_match (matrix_parts counts parts) fields) (λ n. match_parts program (result_within program n) parts ts) (seen_by_parts parts fields))
      → GoesAs program (same && parts_match (matrix_parts counts parts) fields) (λ n. and_try (if same then taken ts else passed_over) (λ fs. match_parts program (result_within program n) parts fs)) (seen_by_parts parts fields)
  tag_goes true parts fields ts h = h refl
  tag_goes false parts fields ts h = always (λ n. refl)

  constructor_goes : (n place : ℕ) (parts : Patterns Bound) (choices : Choices) (tag : ℕ) (fields : Values) (t : Thunk) → PartsGo parts → AreExactly parts (fields_of place choices) → AreValues fields (fields_of tag choices)
      → StandsFor program t (built tag fields)
      → GoesAs program (nat_eq place tag && parts_match (matrix_parts counts parts) fields)
      (λ k. and_try (tried (result_within program k (force t))) (λ r. and_try (fields_if (Some (Constructs n place)) r) (λ fs. match_parts program (result_within program k) parts fs)))
      (seen_by_parts parts fields)
  constructor_goes n place parts choices tag fields t go exact are stands =
      let inner = subst
      (λ (b : Bool). GoesAs program (nat_eq place tag && parts_match (matrix_parts counts parts) fields)
      (λ k. and_try (if b then taken stands.0 else passed_over) (λ fs. match_parts program (result_within program k) parts fs)) (seen_by_parts parts fields))
      (sym (same_test place tag))
      (tag_goes (nat_eq place tag) parts fields stands.0
      (λ e. go (fields_of place choices) fields stands.0 exact (subst (λ (z : ℕ). AreValues fields (fields_of z choices)) (sym (eqb-true place tag e)) are) stands.2)) in
      result_goes program (nat_eq place tag && parts_match (matrix_parts counts parts) fields) (λ k. result_within program k (force t)) (datum tag stands.0)
      (λ k r. and_try (fields_if (Some (Constructs n place)) r) (λ fs. match_parts program (result_within program k) parts fs)) (seen_by_parts parts fields) stands.1 inner

  bound_goes : (bound : Option Binding) (parts : Patterns Bound) (choices : Choices) (tag : ℕ) (fields : Values) (t : Thunk) → PartsGo parts
      → IsConstructorAt bound (λ place. (place < choices_count choices) × AreExactly parts (fields_of place choices)) → AreValues fields (fields_of tag choices) → StandsFor program t (built tag fields)
      → GoesAs program (matches (built_by counts bound (matrix_parts counts parts)) (built tag fields))
      (λ k. and_try (tried (result_within program k (force t))) (λ r. and_try (fields_if bound r) (λ fs. match_parts program (result_within program k) parts fs)))
      (seen_by_parts parts fields)
  bound_goes None parts choices tag fields t go exact are stands = absurd exact
  bound_goes (Some (Declared n)) parts choices tag fields t go exact are stands = absurd exact
  bound_goes (Some (Operates o)) parts choices tag fields t go exact are stands = absurd exact
  bound_goes (Some (Local k)) parts choices tag fields t go exact are stands = absurd exact
  bound_goes (Some (Constructs n place)) parts choices tag fields t go exact are stands = constructor_goes n place parts choices tag fields t go exact.1 are stands

  -- the one constructor of a tuple
  tuple_goes : (parts : Patterns Bound) (columns : Shapes) (tag : ℕ) (fields : Values) (t : Thunk) → PartsGo parts → AreExactly parts columns → tag < 1 → AreValues fields columns → StandsFor program t (built tag fields)
      → GoesAs program (nat_eq 0 tag && parts_match (matrix_parts counts parts) fields)
      (λ k. and_try (tried (result_within program k (force t))) (λ r. and_try (tuple_fields r) (λ fs. match_parts program (result_within program k) parts fs)))
      (seen_by_parts parts fields)
  tuple_goes parts columns (suc tag) fields t go exact within are stands = absurd (omega arith)
  tuple_goes parts columns zero fields t go exact within are stands =
      result_goes program (parts_match (matrix_parts counts parts) fields) (λ k. result_within program k (force t)) (datum zero stands.0)
      (λ k r. and_try (tuple_fields r) (λ fs. match_parts program (result_within program k) parts fs)) (seen_by_parts parts fields) stands.1 (go columns fields stands.0 exact are stands.2)

  mutual
    pub pattern_goes : (p : Pattern Bound) (shape : Shape) (v : Value) (t : Thunk) → IsExactly p shape → IsValue v shape → StandsFor program t v
        → GoesAs program (matches (matrix_pattern counts p) v) (matched program p t) (seen_by p v)
    pattern_goes (wildcard a) shape v t exact is stands = (nothing, always (λ n. refl), tt)
    pattern_goes (variable_pattern a x) shape v t exact is stands = (and_then t nothing, always (λ n. refl), (stands, tt))
    pattern_goes (constructor_pattern a c parts) opaque v t exact is stands = absurd exact
    pattern_goes (constructor_pattern a c parts) (data_of choices) opaque_value t exact is stands = absurd is
    pattern_goes (constructor_pattern a c parts) (data_of choices) (built tag fields) t exact is stands =
        bound_goes a.bound parts choices tag fields t (λ columns given ts e i s. parts_go parts columns given ts e i s) exact is.1 stands
    pattern_goes (tuple_pattern a parts) opaque v t exact is stands = absurd exact
    pattern_goes (tuple_pattern a parts) (data_of (more_choices fields others)) v t exact is stands = absurd exact
    pattern_goes (tuple_pattern a parts) (data_of (one_choice columns)) opaque_value t exact is stands = absurd is
    pattern_goes (tuple_pattern a parts) (data_of (one_choice columns)) (built tag fields) t exact is stands =
        tuple_goes parts columns tag fields t (λ all given ts e i s. parts_go parts all given ts e i s) exact is.0 is.1 stands

    parts_go : (parts : Patterns Bound) (columns : Shapes) (fields : Values) (ts : Thunks) → AreExactly parts columns → AreValues fields columns → StandForEach program ts fields
        → GoesAs program (parts_match (matrix_parts counts parts) fields) (λ n. match_parts program (result_within program n) parts ts) (seen_by_parts parts fields)
    parts_go no_patterns no_shapes no_values nothing exact are stand = (nothing, always (λ n. refl), tt)
    parts_go no_patterns no_shapes no_values (and_then t ts) exact are stand = absurd stand
    parts_go no_patterns no_shapes (more_values v vs) ts exact are stand = absurd are
    parts_go no_patterns (more_shapes shape columns) fields ts exact are stand = absurd exact
    parts_go (more_patterns p ps) no_shapes fields ts exact are stand = absurd exact
    parts_go (more_patterns p ps) (more_shapes shape columns) no_values ts exact are stand = absurd are
    parts_go (more_patterns p ps) (more_shapes shape columns) (more_values v vs) nothing exact are stand = absurd stand
    parts_go (more_patterns p ps) (more_shapes shape columns) (more_values v vs) (and_then t ts) exact are stand =
        both_go program (matches (matrix_pattern counts p) v) (parts_match (matrix_parts counts ps) vs) (matched program p t) (λ n. match_parts program (result_within program n) ps ts)
        (seen_by p v) (seen_by_parts ps vs) (pattern_goes p shape v t exact.0 are.0 stand.0) (parts_go ps columns vs ts exact.1 are.1 stand.1)

  pub row_goes : (pats : List (Pattern Bound)) (columns : Shapes) (given : Values) (ts : Thunks) → IsExactRow pats columns → AreFirstValues given columns → length pats ≡ how_many ts → StandForEach program ts given
      → GoesAs program (row_matches (matrix_row counts pats) given) (row_matched program pats ts) (seen_by_row pats given)
  row_goes [] columns no_values nothing exact are same stand = (nothing, always (λ n. refl), tt)
  row_goes [] columns no_values (and_then t ts) exact are same stand = absurd stand
  row_goes [] columns (more_values v vs) nothing exact are same stand = absurd stand
  row_goes [] columns (more_values v vs) (and_then t ts) exact are same stand = absurd (let e : 0 ≡ suc (how_many ts) = same in omega arith)
  row_goes (p ∷ ps) no_shapes given ts exact are same stand = absurd exact
  row_goes (p ∷ ps) (more_shapes shape columns) no_values nothing exact are same stand = absurd (let e : suc (length ps) ≡ 0 = same in omega arith)
  row_goes (p ∷ ps) (more_shapes shape columns) no_values (and_then t ts) exact are same stand = absurd stand
  row_goes (p ∷ ps) (more_shapes shape columns) (more_values v vs) nothing exact are same stand = absurd stand
  row_goes (p ∷ ps) (more_shapes shape columns) (more_values v vs) (and_then t ts) exact are same stand =
      let rest : length ps ≡ how_many ts = (let e : suc (length ps) ≡ suc (how_many ts) = same in omega arith) in
      both_go program (matches (matrix_pattern counts p) v) (row_matches (matrix_row counts ps) vs) (matched program p t) (row_matched program ps ts)
      (seen_by p v) (seen_by_row ps vs) (pattern_goes p shape v t exact.0 are.0 stand.0) (row_goes ps columns vs ts exact.1 are.1 rest stand.1)
