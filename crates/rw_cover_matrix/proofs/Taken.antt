-- What rows match where their last column is taken away: the values of a constructor match its group or the shorter rows.
use Rattle.std.proofs.Common.{◌≡◌, ◌∙◌, ℕ, suc, zero, ◌≤◌, ◌⊎◌, inl, inr, Bool, true, false, ◌&&◌, ◌||◌, List, [], ◌∷◌, ◌++◌, take, length, Option, Some, None, nat_eq, refl, sym, ap, subst, arith, if◌then◌else◌}
use Rattle.std.proofs.lemmas.List.Folds.{list_any-append}
use Rattle.rw_cover_matrix.specs.Values.{Shape, opaque, data_of, Shapes, no_shapes, more_shapes, Choices, choices_count, fields_of, Value, built, Values, more_values}
use Rattle.rw_cover_matrix.specs.Matching.{PlainPattern, anything, constructed, PlainPatterns, no_patterns, more_patterns, parts_list, parts_match, row_matches, IsOfShape, ArePartsOf, IsRowOf, AreRowsOf}
use Rattle.rw_cover_matrix.specs.Coverage.{some_row_matches}
use Rattle.rw_cover_matrix.specs.Columns.{cell_at, grown_cell, grown, group, shorter_cell, shorter, shorter_rows, cell_count, column_count, AreWithin}
use Rattle.rw_cover_matrix.proofs.Rows.{joined_shapes, joined_values, shapes_count, values_count, cell_matches, row_at, row_before, row_joined, parts_row, or_swap, or_false, and_true, and_false}

-- the front of a row that has a pattern in this column is full
abbrev pub IsFront : ℕ → List PlainPattern → Option PlainPattern → Type 0
IsFront n front None = length front ≤ n
IsFront n front (Some p) = length front ≡ n

pub front_is : (n : ℕ) (row : List PlainPattern) → IsFront n (take n row) (cell_at n row)
front_is zero [] = omega arith
front_is (suc n) [] = omega arith
front_is zero (p ∷ ps) = refl
front_is (suc n) (p ∷ ps) = raised n p (take n ps) (cell_at n ps) (front_is n ps)
  where
    raised : (n : ℕ) (p : PlainPattern) (front : List PlainPattern) (cell : Option PlainPattern) → IsFront n front cell → IsFront (suc n) (p ∷ front) cell
    raised n p front None h = omega arith
    raised n p front (Some q) h = ap suc h

pub front_within : (n : ℕ) (front : List PlainPattern) (cell : Option PlainPattern) → IsFront n front cell → length front ≤ n
front_within n front None h = h
front_within n front (Some p) h = omega arith

-- a constructor's row, by whether its place is the value's
grown_matches : (b : Bool) (n : ℕ) (front : List PlainPattern) (parts : PlainPatterns) (before fields : Values) → length front ≡ n → values_count before ≡ n → (row_matches front before && (b && parts_match parts fields)) ≡ some_row_matches (if b then (front ++ parts_list parts) ∷ [] else []) (joined_values before fields)
grown_matches false n front parts before fields e h = and_false (row_matches front before)
grown_matches true n front parts before fields e h =
    sym (or_false (row_matches (front ++ parts_list parts) (joined_values before fields))
    ∙ row_joined front (parts_list parts) before fields (e ∙ sym h)
    ∙ ap (λ b. row_matches front before && b) (parts_row parts fields))

cell_split : (n tag : ℕ) (front : List PlainPattern) (cell : Option PlainPattern) (before fields : Values) → IsFront n front cell → values_count before ≡ n → (row_matches front before && cell_matches cell (built tag fields)) ≡ some_row_matches (grown_cell tag front cell ++ shorter_cell front cell) (joined_values before fields)
cell_split n tag front None before fields h e =
    sym (and_true (row_matches front before)) ∙ sym (or_false (row_matches front (joined_values before fields)) ∙ row_before front before fields (omega arith))
cell_split n tag front (Some anything) before fields h e =
    sym (and_true (row_matches front before)) ∙ sym (or_false (row_matches front (joined_values before fields)) ∙ row_before front before fields (omega arith))
cell_split n tag front (Some (constructed place among parts)) before fields h e =
    grown_matches (nat_eq place tag) n front parts before fields h e
    ∙ sym (list_any-append (λ row. row_matches row (joined_values before fields)) (grown_cell tag front (Some (constructed place among parts))) []
    ∙ or_false (some_row_matches (grown_cell tag front (Some (constructed place among parts))) (joined_values before fields)))

row_split : (n tag : ℕ) (row : List PlainPattern) (before fields behind : Values) → length row ≤ suc n → values_count before ≡ n → row_matches row (joined_values before (more_values (built tag fields) behind)) ≡ some_row_matches (grown n tag row ++ shorter n row) (joined_values before fields)
row_split n tag row before fields behind h e =
    row_at n row before (built tag fields) behind e h ∙ cell_split n tag (take n row) (cell_at n row) before fields (front_is n row) e

pub any_append : (a b : List (List PlainPattern)) (given : Values) → some_row_matches (a ++ b) given ≡ (some_row_matches a given || some_row_matches b given)
any_append a b given = list_any-append (λ row. row_matches row given) a b

any_swap : (a b c d : List (List PlainPattern)) (given : Values) → (some_row_matches (a ++ b) given || some_row_matches (c ++ d) given) ≡ some_row_matches ((a ++ c) ++ (b ++ d)) given
any_swap a b c d given =
    ap (λ x. x || some_row_matches (c ++ d) given) (any_append a b given)
    ∙ ap (λ x. (some_row_matches a given || some_row_matches b given) || x) (any_append c d given)
    ∙ or_swap (some_row_matches a given) (some_row_matches b given) (some_row_matches c given) (some_row_matches d given)
    ∙ sym (any_append (a ++ c) (b ++ d) given
    ∙ ap (λ x. x || some_row_matches (b ++ d) given) (any_append a c given)
    ∙ ap (λ x. (some_row_matches a given || some_row_matches c given) || x) (any_append b d given))

-- values of a constructor match the rows exactly where, with its fields in its place, they match its group or the shorter rows
pub rows_split : (n tag : ℕ) (rows : List (List PlainPattern)) (before fields behind : Values) → AreWithin (suc n) rows → values_count before ≡ n → some_row_matches rows (joined_values before (more_values (built tag fields) behind)) ≡ some_row_matches (group n tag rows ++ shorter_rows n rows) (joined_values before fields)
unfolding group shorter_rows
rows_split n tag [] before fields behind h e = refl
rows_split n tag (row ∷ rows) before fields behind h e =
    ap (λ b. b || some_row_matches rows (joined_values before (more_values (built tag fields) behind))) (row_split n tag row before fields behind h.0 e)
    ∙ ap (λ b. some_row_matches (grown n tag row ++ shorter n row) (joined_values before fields) || b) (rows_split n tag rows before fields behind h.1 e)
    ∙ any_swap (grown n tag row) (shorter n row) (group n tag rows) (shorter_rows n rows) (joined_values before fields)

-- no constructor in this column
abbrev pub IsNoConstructor : Option PlainPattern → Type 0
IsNoConstructor None = Unit {0}
IsNoConstructor (Some anything) = Unit {0}
IsNoConstructor (Some (constructed place among parts)) = ⊥

abbrev pub HasNone : ℕ → List (List PlainPattern) → Type 0
HasNone n [] = Unit {0}
HasNone n (row ∷ rows) = IsNoConstructor (cell_at n row) × HasNone n rows

cell_none : (front : List PlainPattern) (cell : Option PlainPattern) (before : Values) (v : Value) → IsNoConstructor cell → (row_matches front before && cell_matches cell v) ≡ some_row_matches (shorter_cell front cell) before
cell_none front None before v h = sym (and_true (row_matches front before)) ∙ sym (or_false (row_matches front before))
cell_none front (Some anything) before v h = sym (and_true (row_matches front before)) ∙ sym (or_false (row_matches front before))
cell_none front (Some (constructed place among parts)) before v h = absurd h

pub rows_none : (n : ℕ) (rows : List (List PlainPattern)) (before : Values) (v : Value) (behind : Values) → AreWithin (suc n) rows → HasNone n rows → values_count before ≡ n → some_row_matches rows (joined_values before (more_values v behind)) ≡ some_row_matches (shorter_rows n rows) before
unfolding shorter_rows
rows_none n [] before v behind h none e = refl
rows_none n (row ∷ rows) before v behind h none e =
    ap (λ b. b || some_row_matches rows (joined_values before (more_values v behind))) (row_at n row before v behind e h.0 ∙ cell_none (take n row) (cell_at n row) before v none.0)
    ∙ ap (λ b. some_row_matches (shorter n row) before || b) (rows_none n rows before v behind h.1 none.1 e)
    ∙ sym (any_append (shorter n row) (shorter_rows n rows) before)

-- the shorter rows have at most so many patterns
within_append : (n : ℕ) (a b : List (List PlainPattern)) → AreWithin n a → AreWithin n b → AreWithin n (a ++ b)
within_append n [] b h k = k
within_append n (row ∷ a) b h k = (h.0, within_append n a b h.1 k)

shorter_within : (n : ℕ) (front : List PlainPattern) (cell : Option PlainPattern) → length front ≤ n → AreWithin n (shorter_cell front cell)
shorter_within n front None h = (h, tt)
shorter_within n front (Some anything) h = (h, tt)
shorter_within n front (Some (constructed place among parts)) h = tt

pub shorter_rows_within : (n : ℕ) (rows : List (List PlainPattern)) → AreWithin n (shorter_rows n rows)
unfolding shorter_rows
shorter_rows_within n [] = tt
shorter_rows_within n (row ∷ rows) =
    within_append n (shorter n row) (shorter_rows n rows)
    (shorter_within n (take n row) (cell_at n row) (front_within n (take n row) (cell_at n row) (front_is n row))) (shorter_rows_within n rows)

pub rows_before : (rows : List (List PlainPattern)) (front behind : Values) → AreWithin (values_count front) rows → some_row_matches rows (joined_values front behind) ≡ some_row_matches rows front
rows_before [] front behind h = refl
rows_before (row ∷ rows) front behind h =
    ap (λ b. b || some_row_matches rows (joined_values front behind)) (row_before row front behind h.0)
    ∙ ap (λ b. row_matches row front || b) (rows_before rows front behind h.1)

-- == Which types rows may stand at ==

cell_of : (n : ℕ) (row : List PlainPattern) (front : Shapes) (last : Shape) (behind : Shapes) (p : PlainPattern) → shapes_count front ≡ n → IsRowOf row (joined_shapes front (more_shapes last behind)) → cell_at n row ≡ Some p → IsOfShape p last
cell_of n [] front last behind p e h is = cc
cell_of zero (q ∷ qs) no_shapes last behind p e h is =
    let same : q ≡ p = cc in subst (λ x. IsOfShape x last) same h.0
cell_of zero (q ∷ qs) (more_shapes s ss) last behind p e h is = absurd (omega arith)
cell_of (suc n) (q ∷ qs) no_shapes last behind p e h is = absurd (omega arith)
cell_of (suc n) (q ∷ qs) (more_shapes s ss) last behind p e h is = cell_of n qs ss last behind p (omega arith) h.1 is

pub front_of : (n : ℕ) (row : List PlainPattern) (front behind : Shapes) → shapes_count front ≡ n → IsRowOf row (joined_shapes front behind) → IsRowOf (take n row) front
front_of zero row front behind e h = tt
front_of (suc n) [] front behind e h = tt
front_of (suc n) (p ∷ ps) no_shapes behind e h = absurd (omega arith)
front_of (suc n) (p ∷ ps) (more_shapes s ss) behind e h = (h.0, front_of n ps ss behind (omega arith) h.1)

pub row_of_more : (row : List PlainPattern) (front behind : Shapes) → IsRowOf row front → IsRowOf row (joined_shapes front behind)
row_of_more [] front behind h = tt
row_of_more (p ∷ ps) no_shapes behind h = absurd h
row_of_more (p ∷ ps) (more_shapes s ss) behind h = (h.0, row_of_more ps ss behind h.1)

row_of_joined : (row others : List PlainPattern) (front behind : Shapes) → length row ≡ shapes_count front → IsRowOf row front → IsRowOf others behind → IsRowOf (row ++ others) (joined_shapes front behind)
row_of_joined [] others no_shapes behind e h k = k
row_of_joined [] others (more_shapes s ss) behind e h k = absurd (omega arith)
row_of_joined (p ∷ ps) others no_shapes behind e h k = absurd h
row_of_joined (p ∷ ps) others (more_shapes s ss) behind e h k = (h.0, row_of_joined ps others ss behind (omega arith) h.1 k)

parts_of : (parts : PlainPatterns) (fields : Shapes) → ArePartsOf parts fields → IsRowOf (parts_list parts) fields
parts_of no_patterns fields h = tt
parts_of (more_patterns p ps) no_shapes h = absurd h
parts_of (more_patterns p ps) (more_shapes s ss) h = (h.0, parts_of ps ss h.1)

pub rows_of_append : (a b : List (List PlainPattern)) (columns : Shapes) → AreRowsOf a columns → AreRowsOf b columns → AreRowsOf (a ++ b) columns
rows_of_append [] b columns h k = k
rows_of_append (row ∷ a) b columns h k = (h.0, rows_of_append a b columns h.1 k)

pub rows_of_more : (rows : List (List PlainPattern)) (front behind : Shapes) → AreRowsOf rows front → AreRowsOf rows (joined_shapes front behind)
rows_of_more [] front behind h = tt
rows_of_more (row ∷ rows) front behind h = (row_of_more row front behind h.0, rows_of_more rows front behind h.1)

grown_of : (b : Bool) (tag : ℕ) (front : List PlainPattern) (parts : PlainPatterns) (columns fields : Shapes) → length front ≡ shapes_count columns → IsRowOf front columns → (b ≡ true → ArePartsOf parts fields) → AreRowsOf (if b then (front ++ parts_list parts) ∷ [] else []) (joined_shapes columns fields)
grown_of false tag front parts columns fields e h k = tt
grown_of true tag front parts columns fields e h k = (row_of_joined front (parts_list parts) columns fields e h (parts_of parts fields (k refl)), tt)

cell_grown_of : (n tag : ℕ) (front : List PlainPattern) (cell : Option PlainPattern) (columns : Shapes) (choices : Choices) → IsFront n front cell → shapes_count columns ≡ n → IsRowOf front columns → ((p : PlainPattern) → cell ≡ Some p → IsOfShape p (data_of choices)) → AreRowsOf (grown_cell tag front cell) (joined_shapes columns (fields_of tag choices))
cell_grown_of n tag front None columns choices f e h k = tt
cell_grown_of n tag front (Some anything) columns choices f e h k = tt
cell_grown_of n tag front (Some (constructed place among parts)) columns choices f e h k =
    grown_of (nat_eq place tag) tag front parts columns (fields_of tag choices) (f ∙ sym e) h
    (λ same. let is : place ≡ tag = grind arith in subst (λ x. ArePartsOf parts (fields_of x choices)) is (k (constructed place among parts) refl).2)

pub group_of : (n tag : ℕ) (rows : List (List PlainPattern)) (front : Shapes) (choices : Choices) (behind : Shapes) → shapes_count front ≡ n → AreRowsOf rows (joined_shapes front (more_shapes (data_of choices) behind)) → AreRowsOf (group n tag rows) (joined_shapes front (fields_of tag choices))
unfolding group
group_of n tag [] front choices behind e h = tt
group_of n tag (row ∷ rows) front choices behind e h =
    rows_of_append (grown n tag row) (group n tag rows) (joined_shapes front (fields_of tag choices))
    (cell_grown_of n tag (take n row) (cell_at n row) front choices (front_is n row) e (front_of n row front (more_shapes (data_of choices) behind) e h.0)
    (λ p is. cell_of n row front (data_of choices) behind p e h.0 is))
    (group_of n tag rows front choices behind e h.1)

cell_shorter_of : (front : List PlainPattern) (cell : Option PlainPattern) (columns : Shapes) → IsRowOf front columns → AreRowsOf (shorter_cell front cell) columns
cell_shorter_of front None columns h = (h, tt)
cell_shorter_of front (Some anything) columns h = (h, tt)
cell_shorter_of front (Some (constructed place among parts)) columns h = tt

pub shorter_of : (n : ℕ) (rows : List (List PlainPattern)) (front behind : Shapes) → shapes_count front ≡ n → AreRowsOf rows (joined_shapes front behind) → AreRowsOf (shorter_rows n rows) front
unfolding shorter_rows
shorter_of n [] front behind e h = tt
shorter_of n (row ∷ rows) front behind e h =
    rows_of_append (shorter n row) (shorter_rows n rows) front
    (cell_shorter_of (take n row) (cell_at n row) front (front_of n row front behind e h.0)) (shorter_of n rows front behind e h.1)

-- the column's type is data with as many constructors as the first one says, or no constructor stands there
pub record IsData (n : ℕ) (rows : List (List PlainPattern)) (last : Shape) : Type 0 where
  pub choices : Choices
  pub is : last ≡ data_of choices
  pub count : column_count n rows ≡ choices_count choices

cell_counted : (cell : Option PlainPattern) (last : Shape) (others : ℕ) → ((p : PlainPattern) → cell ≡ Some p → IsOfShape p last) → (IsNoConstructor cell × (cell_count cell others ≡ others)) ⊎ ((choices : Choices) × (last ≡ data_of choices) × (cell_count cell others ≡ choices_count choices))
cell_counted None last others k = inl (tt, refl)
cell_counted (Some anything) last others k = inl (tt, refl)
cell_counted (Some (constructed place among parts)) opaque others k = absurd (k (constructed place among parts) refl)
cell_counted (Some (constructed place among parts)) (data_of choices) others k = inr (choices, refl, (k (constructed place among parts) refl).0)

pub counted : (n : ℕ) (rows : List (List PlainPattern)) (front : Shapes) (last : Shape) (behind : Shapes) → shapes_count front ≡ n → AreRowsOf rows (joined_shapes front (more_shapes last behind)) → (HasNone n rows × (column_count n rows ≡ 0)) ⊎ IsData n rows last
counted n [] front last behind e h = inl (tt, refl)
counted n (row ∷ rows) front last behind e h =
    elim (cell_counted (cell_at n row) last (column_count n rows) (λ p is. cell_of n row front last behind p e h.0 is)) [
      | inl a ↦ elim (counted n rows front last behind e h.1) [
        | inl b ↦ inl ((a.0, b.0), a.1 ∙ b.1)
        | inr b ↦ inr (record { choices = b.choices; is = b.is; count = a.1 ∙ b.count })
      ]
      | inr a ↦ inr (record { choices = a.0; is = a.1; count = a.2 })
    ]
