-- Whether rows cover, by the constructors of their last column, and where groups of rows do not.
use Rattle.std.proofs.Common.{◌≡◌, ◌⊎◌, inl, inr, ℕ, zero, suc, ◌+◌, ◌≤◌, ◌<◌, nat_le, nat_eq, Bool, true, false, refl, sym, ap, subst, arith, add-one, List, [], ◌∷◌, ◌++◌, length, reverse}
use Rattle.std.proofs.lemmas.Bool.Decides.{nat_tests}
use Rattle.std.proofs.lemmas.List.{nil_from_length}
use Rattle.rw_base.specs.declared.place.Place.{Place}
use Rattle.rw_cover_matrix.specs.Matching.{PlainPattern}
use Rattle.rw_cover_matrix.specs.Coverage.{Decides}
use Rattle.rw_cover_matrix.specs.Columns.{group, shorter_rows, column_count, AreWithin, IsReached, IsOpen, rows_nodes}
use Rattle.rw_cover_matrix.proofs.Deciding.{decides_none, decides_open}
use Rattle.rw_cover_matrix.proofs.Popped.{answer_uncovered, answer_all, answer_missing, group_less, shorter_less}
use Rattle.rw_cover.specs.Coverage.{Group, AreUncovered}

abbrev Rows : Type 0
Rows = List (List PlainPattern)

abbrev Decided : Rows → Type 0
Decided rows = (answer : Bool) × Decides answer rows

-- the width of rows: that of their widest
wider : (n m : ℕ) (rows : Rows) → n ≤ m → AreWithin n rows → AreWithin m rows
wider n m [] l h = tt
wider n m (row ∷ rows) l h = (let a = h.0 in omega arith, wider n m rows l h.1)

abbrev Width : Rows → Type 0
Width rows = (n : ℕ) × AreWithin n rows × (0 < n → IsReached n rows)

width_more : (row : List PlainPattern) (rows : Rows) (b : Bool) (w : Width rows) → nat_le (length row) w.0 ≡ b → Width (row ∷ rows)
width_more row rows true w e = let l : length row ≤ w.0 = grind (arith, nat_tests) in (w.0, (l, w.1), λ p. inr (w.2 p))
width_more row rows false w e = let l : w.0 ≤ length row = grind (arith, nat_tests) in (length row, (omega arith, wider w.0 (length row) rows l w.1), λ p. inl refl)

width : (rows : Rows) → Width rows
width [] = (0, tt, λ l. absurd (omega arith))
width (row ∷ rows) = let w = width rows in width_more row rows (nat_le (length row) w.0) w refl

-- rows without columns: there are none, or everything matches
no_columns : (rows : Rows) → AreWithin 0 rows → Decided rows
no_columns [] h = (false, decides_none)
no_columns (row ∷ rows) h = (true, decides_open (row ∷ rows) (inl (subst IsOpen (sym (nil_from_length row (let l = h.0 in omega arith))) tt)))

-- rows whose last column is that after n others, where smaller rows are decided
module _ (n : ℕ) (rows : Rows) (within : AreWithin (n + 1) rows) (reached : IsReached (n + 1) rows) (smaller : (left : Rows) → rows_nodes left < rows_nodes rows → Decided left) where
  left_of : ℕ → Rows
  left_of tag = group n tag (reverse rows) ++ shorter_rows n (reverse rows)

  -- one of the constructors from the first on leaves values over, or each covers
  abbrev Tags : ℕ → Type 0
  Tags k = Decides false rows ⊎ ((tag : ℕ) → tag < k → Decides true (group n tag (reverse rows) ++ shorter_rows n (reverse rows)))

  at_or_below : (tag k : ℕ) (b : Bool) → nat_eq tag k ≡ b → tag < suc k → ((tag : ℕ) → tag < k → Decides true (group n tag (reverse rows) ++ shorter_rows n (reverse rows)))
      → Decides true (group n k (reverse rows) ++ shorter_rows n (reverse rows)) → Decides true (group n tag (reverse rows) ++ shorter_rows n (reverse rows))
  at_or_below tag k true e l h d =
      let same : k ≡ tag = grind (arith, nat_tests) in subst (λ z. Decides true (group n z (reverse rows) ++ shorter_rows n (reverse rows))) same d
  at_or_below tag k false e l h d = h tag (grind (arith, nat_tests))

  tag_more : (k : ℕ) → k < column_count n rows → Decided (group n k (reverse rows) ++ shorter_rows n (reverse rows)) → Tags k → Tags (suc k)
  tag_more k l d (inl over) = inl over
  tag_more k l (false, d) (inr h) = inl (answer_uncovered n rows within reached k (group n k (reverse rows) ++ shorter_rows n (reverse rows)) l refl d)
  tag_more k l (true, d) (inr h) = inr (λ tag m. at_or_below tag k (nat_eq tag k) refl m h d)

  tags : (k : ℕ) → k ≤ column_count n rows → Tags k
  tags zero l = inr (λ tag m. absurd (omega arith))
  tags (suc k) l =
      tag_more k (omega arith) (smaller (group n k (reverse rows) ++ shorter_rows n (reverse rows)) (group_less n rows within reached k (group n k (reverse rows) ++ shorter_rows n (reverse rows)) refl))
      (tags k (omega arith))

  -- without constructors the shorter rows decide
  by_count : (count : ℕ) → column_count n rows ≡ count → Tags count → Decided rows
  by_count zero e h =
      let d = smaller (shorter_rows n (reverse rows)) (shorter_less n rows within reached (shorter_rows n (reverse rows)) refl) in
      (d.0, answer_missing n rows within reached d.0 (shorter_rows n (reverse rows)) refl d.1 (inl e))
  by_count (suc k) e (inl over) = (false, over)
  by_count (suc k) e (inr h) = (true, answer_all n rows within reached (omega arith) (λ tag l. h tag (omega arith)))

  column_decided : Decided rows
  column_decided = by_count (column_count n rows) refl (tags (column_count n rows) (omega arith))

by_width : (rows : Rows) → Width rows → ((left : Rows) → rows_nodes left < rows_nodes rows → Decided left) → Decided rows
by_width rows (zero, within, reached) smaller = no_columns rows within
by_width rows (suc n, within, reached) smaller =
    column_decided n rows (subst (λ k. AreWithin k rows) (sym (add-one n)) within) (subst (λ k. IsReached k rows) (sym (add-one n)) (reached (omega arith))) smaller

decided : (most : ℕ) (rows : Rows) → rows_nodes rows < most → Decided rows
decided zero rows l = absurd (omega arith)
decided (suc most) rows l = by_width rows (width rows) (λ left m. decided most left (omega arith))

pub rows_decided : (rows : Rows) → Decided rows
rows_decided rows = decided (suc (rows_nodes rows)) rows (omega arith)

-- groups, one after the other
group_more : (g : Group) (gs : List Group) → Decided g.rows → ((places : List Place) × AreUncovered gs places) → (places : List Place) × AreUncovered (g ∷ gs) places
group_more g gs (true, d) (places, rest) = (places, inl (d, rest))
group_more g gs (false, d) (places, rest) = (g.place ∷ places, inr (places, refl, d, rest))

pub groups_decided : (groups : List Group) → (places : List Place) × AreUncovered groups places
groups_decided [] = ([], refl)
groups_decided (g ∷ gs) = group_more g gs (rows_decided g.rows) (groups_decided gs)
