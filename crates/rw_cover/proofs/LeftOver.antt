-- Where rows don't cover, some values match none of them: types are finite, so all their values can be tried.
use Rattle.std.proofs.Common.{◌≡◌, refl, arith, ℕ, zero, suc, ◌<◌, List, Bool, true, false, ◌&&◌, ◌⊎◌, inl, inr}
use Rattle.rw_cover_matrix.specs.Values.{Shape, opaque, data_of, Shapes, no_shapes, more_shapes, Choices, one_choice, more_choices, choices_count, fields_of, Value, opaque_value, built, Values, no_values, more_values, IsValue, AreValues}
use Rattle.rw_cover_matrix.specs.Matching.{PlainPattern}
use Rattle.rw_cover_matrix.specs.Coverage.{Covers, some_row_matches}

-- whether all values of a type, of columns, or of constructors from one on, pass a test
abbrev mutual
  all_values : Shape → (Value → Bool) → Bool
  all_values opaque test = test opaque_value
  all_values (data_of choices) test = all_built choices (λ tag fields. test (built tag fields))

  all_lists : Shapes → (Values → Bool) → Bool
  all_lists no_shapes test = test no_values
  all_lists (more_shapes shape columns) test = all_values shape (λ value. all_lists columns (λ given. test (more_values value given)))

  all_built : Choices → (ℕ → Values → Bool) → Bool
  all_built (one_choice fields) test = all_lists fields (test 0)
  all_built (more_choices fields others) test = all_lists fields (test 0) && all_built others (λ tag. test (suc tag))

both : (a b : Bool) → (a && b) ≡ true → (a ≡ true) × (b ≡ true)
both true b h = (refl, h)
both false b h = absurd (cc)

-- each of them passes
mutual
  each_value : (shape : Shape) (test : Value → Bool) → all_values shape test ≡ true → (value : Value) → IsValue value shape → test value ≡ true
  each_value opaque test h opaque_value is = h
  each_value opaque test h (built tag fields) is = absurd is
  each_value (data_of choices) test h opaque_value is = absurd is
  each_value (data_of choices) test h (built tag fields) is = each_built choices (λ tag fields. test (built tag fields)) h tag fields is.0 is.1

  each_list : (columns : Shapes) (test : Values → Bool) → all_lists columns test ≡ true → (given : Values) → AreValues given columns → test given ≡ true
  each_list no_shapes test h no_values is = h
  each_list no_shapes test h (more_values value given) is = absurd is
  each_list (more_shapes shape columns) test h no_values is = absurd is
  each_list (more_shapes shape columns) test h (more_values value given) is =
      each_list columns (λ given. test (more_values value given)) (each_value shape (λ value. all_lists columns (λ given. test (more_values value given))) h value is.0) given is.1

  each_built : (choices : Choices) (test : ℕ → Values → Bool) → all_built choices test ≡ true → (tag : ℕ) (fields : Values) → tag < choices_count choices → AreValues fields (fields_of tag choices) → test tag fields ≡ true
  each_built (one_choice columns) test h zero fields within is = each_list columns (test 0) h fields is
  each_built (one_choice columns) test h (suc tag) fields within is = absurd (omega arith)
  each_built (more_choices columns others) test h zero fields within is = each_list columns (test 0) (both (all_lists columns (test 0)) (all_built others (λ tag. test (suc tag))) h).0 fields is
  each_built (more_choices columns others) test h (suc tag) fields within is =
      each_built others (λ tag. test (suc tag)) (both (all_lists columns (test 0)) (all_built others (λ tag. test (suc tag))) h).1 tag fields (omega arith) is

one_of : (a b : Bool) → (a && b) ≡ false → (a ≡ false) ⊎ (b ≡ false)
one_of true b h = inr h
one_of false b h = inl refl

-- or one fails
mutual
  value_fails : (shape : Shape) (test : Value → Bool) → all_values shape test ≡ false → (value : Value) × IsValue value shape × (test value ≡ false)
  value_fails opaque test h = (opaque_value, tt, h)
  value_fails (data_of choices) test h =
      let b = built_fails choices (λ tag fields. test (built tag fields)) h in
      (built b.0 b.1, (b.2, b.3), b.4)

  list_fails : (columns : Shapes) (test : Values → Bool) → all_lists columns test ≡ false → (given : Values) × AreValues given columns × (test given ≡ false)
  list_fails no_shapes test h = (no_values, tt, h)
  list_fails (more_shapes shape columns) test h =
      let v = value_fails shape (λ value. all_lists columns (λ given. test (more_values value given))) h in
      let vs = list_fails columns (λ given. test (more_values v.0 given)) v.2 in
      (more_values v.0 vs.0, (v.1, vs.1), vs.2)

  built_fails : (choices : Choices) (test : ℕ → Values → Bool) → all_built choices test ≡ false
      → (tag : ℕ) × (fields : Values) × (tag < choices_count choices) × AreValues fields (fields_of tag choices) × (test tag fields ≡ false)
  built_fails (one_choice columns) test h =
      let f = list_fails columns (test 0) h in
      (zero, f.0, omega arith, f.1, f.2)
  built_fails (more_choices columns others) test h =
      elim (one_of (all_lists columns (test 0)) (all_built others (λ tag. test (suc tag))) h) [
        | inl first ↦ (let f = list_fails columns (test 0) first in (zero, f.0, omega arith, f.1, f.2))
        | inr later ↦ (let f = built_fails others (λ tag. test (suc tag)) later in let within = f.2 in (suc f.0, f.1, omega arith, f.3, f.4))
      ]

-- a test is passed by all, or one fails
pub left_over : (columns : Shapes) (rows : List (List PlainPattern)) → ¬ Covers columns rows → (given : Values) × AreValues given columns × (some_row_matches rows given ≡ false)
left_over columns rows not_all =
    elim (all_lists columns (some_row_matches rows)) as (λ all. all_lists columns (some_row_matches rows) ≡ all → (given : Values) × AreValues given columns × (some_row_matches rows given ≡ false)) [
      | true ↦ (λ h. absurd (not_all (λ given is. each_list columns (some_row_matches rows) h given is)))
      | false ↦ (λ h. list_fails columns (some_row_matches rows) h)
    ] refl
