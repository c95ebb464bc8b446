-- Rows in turned order.
use Rattle.std.proofs.Common.{◌≡◌, ◌∙◌, ℕ, ◌⊎◌, inl, inr, Bool, true, false, ◌||◌, List, [], ◌∷◌, ◌++◌, reverse, refl, sym, ap, subst, arith}
use Rattle.std.proofs.lemmas.List.{reverse-append, reverse-reverse}
use Rattle.std.proofs.lemmas.List.Folds.{list_any-append}
use Rattle.rw_cover_matrix.specs.Values.{Shapes, more_shapes, Values}
use Rattle.rw_cover_matrix.specs.Matching.{PlainPattern, row_matches, AreRowsOf}
use Rattle.rw_cover_matrix.specs.Coverage.{some_row_matches, Decides}
use Rattle.rw_cover_matrix.specs.Columns.{grown, group, shorter, shorter_rows, column_count, AreWithin, IsReached, rows_nodes}
use Rattle.rw_cover_matrix.proofs.Rows.{joined_shapes, or_false}
use Rattle.rw_cover_matrix.proofs.Taken.{HasNone, counted, rows_of_append}
use Rattle.rw_cover_matrix.proofs.Deciding.{IsCounted}
use Rattle.rw_cover_matrix.proofs.Smaller.{rows_nodes-append}

abbrev Rows : Type 0
Rows = List (List PlainPattern)

pub reverse-cons : (row : List PlainPattern) (rows : Rows) → reverse (row ∷ rows) ≡ reverse rows ++ row ∷ []
reverse-cons row rows = reverse-append (row ∷ []) rows

or_comm : (a b : Bool) → (a || b) ≡ (b || a)
or_comm true true = refl
or_comm true false = refl
or_comm false true = refl
or_comm false false = refl

turned_matches : (rows : Rows) (given : Values) → some_row_matches (reverse rows) given ≡ some_row_matches rows given
turned_matches [] given = refl
turned_matches (row ∷ rows) given =
    ap (λ r. some_row_matches r given) (reverse-cons row rows)
    ∙ list_any-append (λ r. row_matches r given) (reverse rows) (row ∷ [])
    ∙ ap (λ b. b || (row_matches row given || false)) (turned_matches rows given)
    ∙ ap (λ b. some_row_matches rows given || b) (or_false (row_matches row given))
    ∙ or_comm (some_row_matches rows given) (row_matches row given)

pub turned_nodes : (rows : Rows) → rows_nodes (reverse rows) ≡ rows_nodes rows
turned_nodes [] = refl
turned_nodes (row ∷ rows) =
    ap rows_nodes (reverse-cons row rows) ∙ rows_nodes-append (reverse rows) (row ∷ []) ∙ (omega (arith, turned_nodes rows))

pub turned_of : (rows : Rows) (columns : Shapes) → AreRowsOf rows columns → AreRowsOf (reverse rows) columns
turned_of [] columns h = tt
turned_of (row ∷ rows) columns h =
    subst (λ r. AreRowsOf r columns) (sym (reverse-cons row rows)) (rows_of_append (reverse rows) (row ∷ []) columns (turned_of rows columns h.1) (h.0, tt))

pub decides_turned : (answer : Bool) (rows : Rows) → Decides answer (reverse rows) → Decides answer rows
decides_turned answer rows d columns r =
    let e = d columns (turned_of rows columns r) in
    ((λ t given is. sym (turned_matches rows given) ∙ e.0 t given is), λ covers. e.1 (λ given is. turned_matches rows given ∙ covers given is))

within_append : (n : ℕ) (a b : Rows) → AreWithin n a → AreWithin n b → AreWithin n (a ++ b)
within_append n [] b h k = k
within_append n (row ∷ a) b h k = (h.0, within_append n a b h.1 k)

pub within_front : (n : ℕ) (a b : Rows) → AreWithin n (a ++ b) → AreWithin n a × AreWithin n b
within_front n [] b h = (tt, h)
within_front n (row ∷ a) b h = ((h.0, (within_front n a b h.1).0), (within_front n a b h.1).1)

pub turned_within : (n : ℕ) (rows : Rows) → AreWithin n rows → AreWithin n (reverse rows)
turned_within n [] h = tt
turned_within n (row ∷ rows) h =
    subst (AreWithin n) (sym (reverse-cons row rows)) (within_append n (reverse rows) (row ∷ []) (turned_within n rows h.1) (h.0, tt))

reached_append : (n : ℕ) (a b : Rows) → IsReached n a ⊎ IsReached n b → IsReached n (a ++ b)
reached_append n [] b (inl h) = absurd h
reached_append n [] b (inr h) = h
reached_append n (row ∷ a) b (inl (inl e)) = inl e
reached_append n (row ∷ a) b (inl (inr h)) = inr (reached_append n a b (inl h))
reached_append n (row ∷ a) b (inr h) = inr (reached_append n a b (inr h))

pub turned_reached : (n : ℕ) (rows : Rows) → IsReached n rows → IsReached n (reverse rows)
turned_reached n [] h = absurd h
turned_reached n (row ∷ rows) (inl e) = subst (IsReached n) (sym (reverse-cons row rows)) (reached_append n (reverse rows) (row ∷ []) (inr (inl e)))
turned_reached n (row ∷ rows) (inr h) = subst (IsReached n) (sym (reverse-cons row rows)) (reached_append n (reverse rows) (row ∷ []) (inl (turned_reached n rows h)))

none_append : (n : ℕ) (a b : Rows) → HasNone n a → HasNone n b → HasNone n (a ++ b)
none_append n [] b h k = k
none_append n (row ∷ a) b h k = (h.0, none_append n a b h.1 k)

turned_none : (n : ℕ) (rows : Rows) → HasNone n rows → HasNone n (reverse rows)
turned_none n [] h = tt
turned_none n (row ∷ rows) h = subst (HasNone n) (sym (reverse-cons row rows)) (none_append n (reverse rows) (row ∷ []) (turned_none n rows h.1) (h.0, tt))

-- the number that the first constructor says counts in turned order too
pub turned_counted : (n : ℕ) (rows : Rows) → IsCounted n (reverse rows) (column_count n rows)
turned_counted n rows front last behind e r =
    let back : AreRowsOf rows (joined_shapes front (more_shapes last behind)) =
    subst (λ x. AreRowsOf x (joined_shapes front (more_shapes last behind))) (reverse-reverse rows) (turned_of (reverse rows) (joined_shapes front (more_shapes last behind)) r) in
    elim (counted n rows front last behind e back) [
      | inl a ↦ inl (turned_none n rows a.0, a.1)
      | inr d ↦ inr (d.choices, d.is, d.count)
    ]

-- a row behind others comes first in turned order
pub reverse-snoc : (rows : Rows) (row : List PlainPattern) → reverse (rows ++ row ∷ []) ≡ row ∷ reverse rows
reverse-snoc rows row = reverse-append rows (row ∷ [])

pub group-cons : (n t : ℕ) (row : List PlainPattern) (rows : Rows) → group n t (row ∷ rows) ≡ grown n t row ++ group n t rows
unfolding group
group-cons n t row rows = refl

pub shorter-cons : (n : ℕ) (row : List PlainPattern) (rows : Rows) → shorter_rows n (row ∷ rows) ≡ shorter n row ++ shorter_rows n rows
unfolding shorter_rows
shorter-cons n row rows = refl

pub group-nil : (n t : ℕ) → group n t [] ≡ []
unfolding group
group-nil n t = refl

pub shorter-nil : (n : ℕ) → shorter_rows n [] ≡ []
unfolding shorter_rows
shorter-nil n = refl
