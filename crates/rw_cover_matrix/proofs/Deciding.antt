-- Whether rows cover, from whether what is left of them covers when their last column is taken away.
use Rattle.std.proofs.Common.{◌≡◌, ◌∙◌, ℕ, suc, ◌<◌, ◌⊎◌, inl, inr, Bool, true, false, ◌||◌, List, [], ◌∷◌, ◌++◌, refl, sym, ap, subst, arith, IsTrue, ◌↔◌}
use Rattle.rw_cover_matrix.specs.Values.{Shape, data_of, Shapes, no_shapes, more_shapes, Choices, choices_count, fields_of, opaque_value, built, Values, no_values, more_values, AreValues}
use Rattle.rw_cover_matrix.specs.Matching.{PlainPattern, anything, constructed, row_matches, IsRowOf, AreRowsOf}
use Rattle.rw_cover_matrix.specs.Coverage.{some_row_matches, Covers, Decides}
use Rattle.rw_cover_matrix.specs.Columns.{group, shorter_rows, AreWithin, IsReached, IsOpen, HasOpen}
use Rattle.rw_cover_matrix.proofs.Rows.{some_value, some_value-is, some_values, some_values-are, some_choice, joined_shapes, joined_values, joined-are, shapes_count, same_count, split, IsCut, cut}
use Rattle.rw_cover_matrix.proofs.Taken.{HasNone, any_append, rows_split, rows_none, rows_before, shorter_rows_within, group_of, shorter_of, rows_of_append, rows_of_more}

abbrev Rows : Type 0
Rows = List (List PlainPattern)

-- without rows nothing is covered
pub decides_none : Decides false []
decides_none columns h = ((λ t. cc), λ covers. covers (some_values columns) (some_values-are columns))

-- a row of wildcards alone covers everything
or_true : (b : Bool) → (b || true) ≡ true
or_true true = refl
or_true false = refl

row_open : (row : List PlainPattern) (columns : Shapes) (given : Values) → IsOpen row → IsRowOf row columns → AreValues given columns → row_matches row given ≡ true
row_open [] columns given h r is = refl
row_open (anything ∷ ps) no_shapes given h r is = absurd r
row_open (anything ∷ ps) (more_shapes shape columns) no_values h r is = absurd is
row_open (anything ∷ ps) (more_shapes shape columns) (more_values value given) h r is = row_open ps columns given h r.1 is.1
row_open (constructed place among parts ∷ ps) columns given h r is = absurd h

open_matches : (rows : Rows) (columns : Shapes) (given : Values) → HasOpen rows → AreRowsOf rows columns → AreValues given columns → IsTrue (some_row_matches rows given)
open_matches [] columns given h r is = absurd h
open_matches (row ∷ rows) columns given (inl e) r is = rw (row_open row columns given e r.0 is) refl
open_matches (row ∷ rows) columns given (inr h) r is = ap (λ b. row_matches row given || b) (open_matches rows columns given h r.1 is) ∙ or_true (row_matches row given)

pub decides_open : (rows : Rows) → HasOpen rows → Decides true rows
decides_open rows h columns r = ((λ t given is. open_matches rows columns given h r is), λ covers. refl)

-- some row reaches a column, so there is one
pub reached_cut : (n : ℕ) (rows : Rows) (columns : Shapes) → IsReached (suc n) rows → AreRowsOf rows columns → IsCut n columns
reached_cut n [] columns h r = absurd h
reached_cut n (row ∷ rows) columns (inl e) r = cut n row columns e r.0
reached_cut n (row ∷ rows) columns (inr h) r = reached_cut n rows columns h r.1

-- columns behind all rows don't count
pub covers_before : (rows : Rows) (front behind : Shapes) → AreWithin (shapes_count front) rows → Covers (joined_shapes front behind) rows → Covers front rows
covers_before rows front behind h covers given is =
    sym (rows_before rows given (some_values behind) (subst (λ n. AreWithin n rows) (sym (same_count given front is)) h))
    ∙ covers (joined_values given (some_values behind)) (joined-are given front (some_values behind) behind is (some_values-are behind))

pub covers_behind : (rows : Rows) (front behind : Shapes) → AreWithin (shapes_count front) rows → Covers front rows → Covers (joined_shapes front behind) rows
covers_behind rows front behind h covers given is =
    let s = split front behind given is in
    subst (λ v. IsTrue (some_row_matches rows v)) (sym s.whole)
    (rows_before rows s.front s.behind (subst (λ n. AreWithin n rows) (sym (same_count s.front front s.front_is)) h) ∙ covers s.front s.front_is)

module _ (n : ℕ) (rows : Rows) (within : AreWithin (suc n) rows) (front behind : Shapes) (count : shapes_count front ≡ n) where
  -- of a column of data: each constructor's rows cover
  pub covers_split : (choices : Choices) (tag : ℕ) → tag < choices_count choices → Covers (joined_shapes front (more_shapes (data_of choices) behind)) rows → Covers (joined_shapes front (fields_of tag choices)) (group n tag rows ++ shorter_rows n rows)
  covers_split choices tag lt covers given is =
      let s = split front (fields_of tag choices) given is in
      subst (λ v. IsTrue (some_row_matches (group n tag rows ++ shorter_rows n rows) v)) (sym s.whole)
      (sym (rows_split n tag rows s.front s.behind (some_values behind) within (same_count s.front front s.front_is ∙ count))
      ∙ covers (joined_values s.front (more_values (built tag s.behind) (some_values behind)))
      (joined-are s.front front (more_values (built tag s.behind) (some_values behind)) (more_shapes (data_of choices) behind) s.front_is ((lt, s.behind_is), some_values-are behind)))

  covers_value : (choices : Choices) → ((tag : ℕ) → tag < choices_count choices → Covers (joined_shapes front (fields_of tag choices)) (group n tag rows ++ shorter_rows n rows)) → (before after : Values) → AreValues before front → AreValues after (more_shapes (data_of choices) behind) → IsTrue (some_row_matches rows (joined_values before after))
  covers_value choices all before no_values a b = absurd b
  covers_value choices all before (more_values opaque_value vs) a b = absurd b.0
  covers_value choices all before (more_values (built tag fields) vs) a b =
      rows_split n tag rows before fields vs within (same_count before front a ∙ count)
      ∙ all tag b.0.0 (joined_values before fields) (joined-are before front fields (fields_of tag choices) a b.0.1)

  pub covers_joined : (choices : Choices) → ((tag : ℕ) → tag < choices_count choices → Covers (joined_shapes front (fields_of tag choices)) (group n tag rows ++ shorter_rows n rows)) → Covers (joined_shapes front (more_shapes (data_of choices) behind)) rows
  covers_joined choices all given is =
      let s = split front (more_shapes (data_of choices) behind) given is in
      subst (λ v. IsTrue (some_row_matches rows v)) (sym s.whole) (covers_value choices all s.front s.behind s.front_is s.behind_is)

  -- of a column without constructors: the shorter rows cover
  pub covers_shorter : (last : Shape) → HasNone n rows → Covers (joined_shapes front (more_shapes last behind)) rows → Covers front (shorter_rows n rows)
  covers_shorter last none covers given is =
      sym (rows_none n rows given (some_value last) (some_values behind) within none (same_count given front is ∙ count))
      ∙ covers (joined_values given (more_values (some_value last) (some_values behind)))
      (joined-are given front (more_values (some_value last) (some_values behind)) (more_shapes last behind) is (some_value-is last, some_values-are behind))

  none_value : (last : Shape) → HasNone n rows → Covers front (shorter_rows n rows) → (before after : Values) → AreValues before front → AreValues after (more_shapes last behind) → IsTrue (some_row_matches rows (joined_values before after))
  none_value last none covers before no_values a b = absurd b
  none_value last none covers before (more_values v vs) a b =
      rows_none n rows before v vs within none (same_count before front a ∙ count) ∙ covers before a

  pub covers_none : (last : Shape) → HasNone n rows → Covers front (shorter_rows n rows) → Covers (joined_shapes front (more_shapes last behind)) rows
  covers_none last none covers given is =
      let s = split front (more_shapes last behind) given is in
      subst (λ v. IsTrue (some_row_matches rows v)) (sym s.whole) (none_value last none covers s.front s.behind s.front_is s.behind_is)

-- the columns' types are those before the last, that one, and those behind
at_cut : (n : ℕ) (rows : Rows) (answer : Bool) → IsReached (suc n) rows → ((front : Shapes) (last : Shape) (behind : Shapes) → shapes_count front ≡ n → AreRowsOf rows (joined_shapes front (more_shapes last behind)) → IsTrue answer ↔ Covers (joined_shapes front (more_shapes last behind)) rows) → Decides answer rows
at_cut n rows answer reached all columns r =
    let k = reached_cut n rows columns reached r in
    let P : Shapes → Type 0 = λ c. AreRowsOf rows c → IsTrue answer ↔ Covers c rows in
    subst P (sym k.whole) (all k.front k.last k.behind k.count) r

-- what the number of constructors says of the last column's type
abbrev pub IsCounted : ℕ → Rows → ℕ → Type 0
IsCounted n rows count = (front : Shapes) (last : Shape) (behind : Shapes) → shapes_count front ≡ n → AreRowsOf rows (joined_shapes front (more_shapes last behind)) → (HasNone n rows × (count ≡ 0)) ⊎ ((choices : Choices) × (last ≡ data_of choices) × (count ≡ choices_count choices))

-- a constructor that stands in no row, or no constructor at all
abbrev pub IsMissing : ℕ → Rows → ℕ → Type 0
IsMissing n rows count = (count ≡ 0) ⊎ ((tag : ℕ) × (tag < count) × (group n tag rows ≡ []))

module _ (n count : ℕ) (rows : Rows) (within : AreWithin (suc n) rows) (reached : IsReached (suc n) rows) (counted : IsCounted n rows count) where
  group_rows_of : (front : Shapes) (choices : Choices) (behind : Shapes) (tag : ℕ) → shapes_count front ≡ n → AreRowsOf rows (joined_shapes front (more_shapes (data_of choices) behind)) → AreRowsOf (group n tag rows ++ shorter_rows n rows) (joined_shapes front (fields_of tag choices))
  group_rows_of front choices behind tag e r =
      rows_of_append (group n tag rows) (shorter_rows n rows) (joined_shapes front (fields_of tag choices)) (group_of n tag rows front choices behind e r)
      (rows_of_more (shorter_rows n rows) front (fields_of tag choices) (shorter_of n rows front (more_shapes (data_of choices) behind) e r))

  -- one constructor whose rows don't cover
  uncovered_data : (tag : ℕ) → Decides false (group n tag rows ++ shorter_rows n rows) → (front : Shapes) (choices : Choices) (behind : Shapes) → tag < choices_count choices → shapes_count front ≡ n → AreRowsOf rows (joined_shapes front (more_shapes (data_of choices) behind)) → Covers (joined_shapes front (more_shapes (data_of choices) behind)) rows → IsTrue false
  uncovered_data tag d front choices behind lt e r covers =
      (d (joined_shapes front (fields_of tag choices)) (group_rows_of front choices behind tag e r)).1 (covers_split n rows within front behind e choices tag lt covers)

  uncovered_at : (tag : ℕ) → tag < count → Decides false (group n tag rows ++ shorter_rows n rows) → (front : Shapes) (last : Shape) (behind : Shapes) → shapes_count front ≡ n → AreRowsOf rows (joined_shapes front (more_shapes last behind)) → Covers (joined_shapes front (more_shapes last behind)) rows → IsTrue false
  uncovered_at tag lt d front last behind e r =
      elim (counted front last behind e r) [
        | inl a ↦ absurd (omega (arith, a.1))
        | inr a ↦
            let P : Shape → Type 0 = λ s. AreRowsOf rows (joined_shapes front (more_shapes s behind)) → Covers (joined_shapes front (more_shapes s behind)) rows → IsTrue false in
            subst P (sym a.1) (uncovered_data tag d front a.0 behind (omega (arith, a.2)) e) r
      ]

  pub decides_uncovered : (tag : ℕ) → tag < count → Decides false (group n tag rows ++ shorter_rows n rows) → Decides false rows
  decides_uncovered tag lt d = at_cut n rows false reached (λ front last behind e r. ((λ t. cc), uncovered_at tag lt d front last behind e r))

  -- each constructor stands in some row, and its rows cover
  all_data : ((tag : ℕ) → tag < count → Decides true (group n tag rows ++ shorter_rows n rows)) → (front : Shapes) (choices : Choices) (behind : Shapes) → count ≡ choices_count choices → shapes_count front ≡ n → AreRowsOf rows (joined_shapes front (more_shapes (data_of choices) behind)) → Covers (joined_shapes front (more_shapes (data_of choices) behind)) rows
  all_data done front choices behind k e r =
      covers_joined n rows within front behind e choices
      (λ tag lt. (done tag (omega arith) (joined_shapes front (fields_of tag choices)) (group_rows_of front choices behind tag e r)).0 refl)

  all_at : 0 < count → ((tag : ℕ) → tag < count → Decides true (group n tag rows ++ shorter_rows n rows)) → (front : Shapes) (last : Shape) (behind : Shapes) → shapes_count front ≡ n → AreRowsOf rows (joined_shapes front (more_shapes last behind)) → Covers (joined_shapes front (more_shapes last behind)) rows
  all_at some done front last behind e r =
      elim (counted front last behind e r) [
        | inl a ↦ absurd (omega (arith, a.1))
        | inr a ↦
            let P : Shape → Type 0 = λ s. AreRowsOf rows (joined_shapes front (more_shapes s behind)) → Covers (joined_shapes front (more_shapes s behind)) rows in
            subst P (sym a.1) (all_data done front a.0 behind a.2 e) r
      ]

  pub decides_all : 0 < count → ((tag : ℕ) → tag < count → Decides true (group n tag rows ++ shorter_rows n rows)) → Decides true rows
  decides_all some done = at_cut n rows true reached (λ front last behind e r. ((λ t. all_at some done front last behind e r), λ covers. refl))

  -- a constructor stands in no row: the shorter rows have to cover, and then they cover the values of the others too
  shorter_covers : (front : Shapes) (choices : Choices) (tag : ℕ) → shapes_count front ≡ n → Covers front (shorter_rows n rows) → Covers (joined_shapes front (fields_of tag choices)) (group n tag rows ++ shorter_rows n rows)
  shorter_covers front choices tag e covers given is =
      any_append (group n tag rows) (shorter_rows n rows) given
      ∙ ap (λ b. some_row_matches (group n tag rows) given || b)
      (covers_behind (shorter_rows n rows) front (fields_of tag choices) (subst (λ k. AreWithin k (shorter_rows n rows)) (sym e) (shorter_rows_within n rows)) covers given is)
      ∙ or_true (some_row_matches (group n tag rows) given)

  missing_data : (answer : Bool) → Decides answer (shorter_rows n rows) → IsMissing n rows count → (front : Shapes) (choices : Choices) (behind : Shapes) → count ≡ choices_count choices → shapes_count front ≡ n → AreRowsOf rows (joined_shapes front (more_shapes (data_of choices) behind)) → IsTrue answer ↔ Covers (joined_shapes front (more_shapes (data_of choices) behind)) rows
  missing_data answer d m front choices behind k e r =
      let short = d front (shorter_of n rows front (more_shapes (data_of choices) behind) e r) in (
        (λ t. covers_joined n rows within front behind e choices (λ tag lt. shorter_covers front choices tag e (short.0 t))),
        λ covers. elim m [
          | inl z ↦ absurd (omega (arith, some_choice choices))
          | inr w ↦
              short.1 (covers_before (shorter_rows n rows) front (fields_of w.0 choices) (subst (λ c. AreWithin c (shorter_rows n rows)) (sym e) (shorter_rows_within n rows))
              (subst (λ g. Covers (joined_shapes front (fields_of w.0 choices)) (g ++ shorter_rows n rows)) w.2 (covers_split n rows within front behind e choices w.0 (let lt : w.0 < count = w.1 in omega arith) covers)))
        ],
      )

  missing_at : (answer : Bool) → Decides answer (shorter_rows n rows) → IsMissing n rows count → (front : Shapes) (last : Shape) (behind : Shapes) → shapes_count front ≡ n → AreRowsOf rows (joined_shapes front (more_shapes last behind)) → IsTrue answer ↔ Covers (joined_shapes front (more_shapes last behind)) rows
  missing_at answer d m front last behind e r =
      elim (counted front last behind e r) [
        | inl a ↦
            let short = d front (shorter_of n rows front (more_shapes last behind) e r) in
            ((λ t. covers_none n rows within front behind e last a.0 (short.0 t)), λ covers. short.1 (covers_shorter n rows within front behind e last a.0 covers))
        | inr a ↦
            let P : Shape → Type 0 = λ s. AreRowsOf rows (joined_shapes front (more_shapes s behind)) → IsTrue answer ↔ Covers (joined_shapes front (more_shapes s behind)) rows in
            subst P (sym a.1) (missing_data answer d m front a.0 behind a.2 e) r
      ]

  pub decides_missing : (answer : Bool) → Decides answer (shorter_rows n rows) → IsMissing n rows count → Decides answer rows
  decides_missing answer d m = at_cut n rows answer reached (missing_at answer d m)
