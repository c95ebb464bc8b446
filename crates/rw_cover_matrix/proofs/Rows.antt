-- Values of joined columns, and what a row matches where its last column is taken away.
use Rattle.std.proofs.Common.{◌≡◌, ◌∙◌, ℕ, suc, zero, ◌≤◌, ◌<◌, Bool, true, false, ◌&&◌, ◌||◌, List, [], ◌∷◌, ◌++◌, take, length, Option, Some, None, refl, sym, ap, arith}
use Rattle.rw_cover_matrix.specs.Values.{Shape, opaque, data_of, Shapes, no_shapes, more_shapes, Choices, one_choice, more_choices, choices_count, fields_of, Value, opaque_value, built, Values, no_values, more_values, IsValue, AreValues}
use Rattle.rw_cover_matrix.specs.Matching.{PlainPattern, PlainPatterns, no_patterns, more_patterns, parts_list, matches, parts_match, row_matches, IsRowOf}
use Rattle.rw_cover_matrix.specs.Columns.{cell_at}

-- == Each type has a value ==

abbrev mutual
  pub some_value : Shape → Value
  some_value opaque = opaque_value
  some_value (data_of choices) = built 0 (first_values choices)

  pub first_values : Choices → Values
  first_values (one_choice fields) = some_values fields
  first_values (more_choices fields others) = some_values fields

  pub some_values : Shapes → Values
  some_values no_shapes = no_values
  some_values (more_shapes shape shapes) = more_values (some_value shape) (some_values shapes)

pub some_choice : (choices : Choices) → 0 < choices_count choices
some_choice (one_choice fields) = omega arith
some_choice (more_choices fields others) = omega arith

mutual
  pub some_value-is : (shape : Shape) → IsValue (some_value shape) shape
  some_value-is opaque = tt
  some_value-is (data_of choices) = (some_choice choices, first_values-are choices)

  pub first_values-are : (choices : Choices) → AreValues (first_values choices) (fields_of 0 choices)
  first_values-are (one_choice fields) = some_values-are fields
  first_values-are (more_choices fields others) = some_values-are fields

  pub some_values-are : (shapes : Shapes) → AreValues (some_values shapes) shapes
  some_values-are no_shapes = tt
  some_values-are (more_shapes shape shapes) = (some_value-is shape, some_values-are shapes)

-- == Columns one behind the other ==

abbrev pub joined_shapes : Shapes → Shapes → Shapes
joined_shapes no_shapes t = t
joined_shapes (more_shapes s ss) t = more_shapes s (joined_shapes ss t)

abbrev pub joined_values : Values → Values → Values
joined_values no_values w = w
joined_values (more_values v vs) w = more_values v (joined_values vs w)

abbrev pub shapes_count : Shapes → ℕ
shapes_count no_shapes = 0
shapes_count (more_shapes s ss) = suc (shapes_count ss)

abbrev pub values_count : Values → ℕ
values_count no_values = 0
values_count (more_values v vs) = suc (values_count vs)

pub joined-are : (v : Values) (s : Shapes) (w : Values) (t : Shapes) → AreValues v s → AreValues w t → AreValues (joined_values v w) (joined_shapes s t)
joined-are no_values no_shapes w t a b = b
joined-are no_values (more_shapes s ss) w t a b = absurd a
joined-are (more_values v vs) no_shapes w t a b = absurd a
joined-are (more_values v vs) (more_shapes s ss) w t a b = (a.0, joined-are vs ss w t a.1 b)

pub same_count : (v : Values) (s : Shapes) → AreValues v s → values_count v ≡ shapes_count s
same_count no_values no_shapes a = refl
same_count no_values (more_shapes s ss) a = absurd a
same_count (more_values v vs) no_shapes a = absurd a
same_count (more_values v vs) (more_shapes s ss) a = ap suc (same_count vs ss a.1)

-- values of joined columns are joined values
pub record IsSplit (s t : Shapes) (all : Values) : Type 0 where
  pub front : Values
  pub behind : Values
  pub whole : all ≡ joined_values front behind
  pub front_is : AreValues front s
  pub behind_is : AreValues behind t

pub split : (s t : Shapes) (all : Values) → AreValues all (joined_shapes s t) → IsSplit s t all
split no_shapes t all a = record { front = no_values; behind = all; whole = refl; front_is = tt; behind_is = a }
split (more_shapes s ss) t no_values a = absurd a
split (more_shapes s ss) t (more_values v vs) a =
    let r = split ss t vs a.1 in
    record { front = more_values v r.front; behind = r.behind; whole = ap (more_values v) r.whole; front_is = (a.0, r.front_is); behind_is = r.behind_is }

-- shapes that are at least so many are joined from so many and others
pub record IsCut (n : ℕ) (all : Shapes) : Type 0 where
  pub front : Shapes
  pub last : Shape
  pub behind : Shapes
  pub whole : all ≡ joined_shapes front (more_shapes last behind)
  pub count : shapes_count front ≡ n

pub cut : (n : ℕ) (row : List PlainPattern) (all : Shapes) → length row ≡ suc n → IsRowOf row all → IsCut n all
cut n [] all e a = absurd (omega arith)
cut n (p ∷ ps) no_shapes e a = absurd a
cut zero (p ∷ ps) (more_shapes s ss) e a = record { front = no_shapes; last = s; behind = ss; whole = refl; count = refl }
cut (suc n) (p ∷ ps) (more_shapes s ss) e a =
    let r = cut n ps ss (omega arith) a.1 in
    record { front = more_shapes s r.front; last = r.last; behind = r.behind; whole = ap (more_shapes s) r.whole; count = ap suc r.count }

-- == What a row matches ==

pub and_true : (b : Bool) → b ≡ (b && true)
and_true true = refl
and_true false = refl

pub and_assoc : (a b c : Bool) → (a && (b && c)) ≡ ((a && b) && c)
and_assoc true b c = refl
and_assoc false b c = refl

pub and_false : (b : Bool) → (b && false) ≡ false
and_false true = refl
and_false false = refl

pub or_false : (b : Bool) → (b || false) ≡ b
or_false true = refl
or_false false = refl

pub or_swap : (a b c d : Bool) → ((a || b) || (c || d)) ≡ ((a || c) || (b || d))
or_swap true b c d = refl
or_swap false true true d = refl
or_swap false true false d = refl
or_swap false false c d = refl

abbrev pub cell_matches : Option PlainPattern → Value → Bool
cell_matches None value = true
cell_matches (Some p) value = matches p value

-- of a row within the columns, the last one apart
pub row_at : (n : ℕ) (row : List PlainPattern) (front : Values) (v : Value) (behind : Values) → values_count front ≡ n → length row ≤ suc n → row_matches row (joined_values front (more_values v behind)) ≡ (row_matches (take n row) front && cell_matches (cell_at n row) v)
row_at zero [] no_values v behind e h = refl
row_at zero [] (more_values w ws) v behind e h = absurd (omega arith)
row_at (suc n) [] front v behind e h = refl
row_at zero (p ∷ []) no_values v behind e h = sym (and_true (matches p v))
row_at zero (p ∷ q ∷ ps) no_values v behind e h = absurd (omega arith)
row_at zero (p ∷ ps) (more_values w ws) v behind e h = absurd (omega arith)
row_at (suc n) (p ∷ ps) no_values v behind e h = absurd (omega arith)
row_at (suc n) (p ∷ ps) (more_values w ws) v behind e h =
    ap (λ b. matches p w && b) (row_at n ps ws v behind (omega arith) (omega arith)) ∙ and_assoc (matches p w) (row_matches (take n ps) ws) (cell_matches (cell_at n ps) v)

-- columns behind a row's own match
pub row_before : (row : List PlainPattern) (front behind : Values) → length row ≤ values_count front → row_matches row (joined_values front behind) ≡ row_matches row front
row_before [] front behind h = refl
row_before (p ∷ ps) no_values behind h = absurd (omega arith)
row_before (p ∷ ps) (more_values v vs) behind h = ap (λ b. matches p v && b) (row_before ps vs behind (omega arith))

pub row_joined : (row others : List PlainPattern) (front behind : Values) → length row ≡ values_count front → row_matches (row ++ others) (joined_values front behind) ≡ (row_matches row front && row_matches others behind)
row_joined [] others no_values behind h = refl
row_joined [] others (more_values v vs) behind h = absurd (omega arith)
row_joined (p ∷ ps) others no_values behind h = absurd (omega arith)
row_joined (p ∷ ps) others (more_values v vs) behind h =
    ap (λ b. matches p v && b) (row_joined ps others vs behind (omega arith)) ∙ and_assoc (matches p v) (row_matches ps vs) (row_matches others behind)

pub parts_row : (parts : PlainPatterns) (given : Values) → row_matches (parts_list parts) given ≡ parts_match parts given
parts_row no_patterns given = refl
parts_row (more_patterns p ps) no_values = refl
parts_row (more_patterns p ps) (more_values v vs) = ap (λ b. matches p v && b) (parts_row ps vs)
