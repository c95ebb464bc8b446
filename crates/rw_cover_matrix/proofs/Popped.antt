-- What the sorted rows say of the answer.
use Rattle.std.proofs.Common.{◌≡◌, ◌∙◌, ℕ, suc, ◌+◌, ◌≤◌, ◌<◌, inl, ◌-◌, Bool, true, false, not, Result, Ok, Err, IfOk, List, [], ◌∷◌, ◌++◌, length, reverse, refl, sym, ap, subst, arith, IsTrue, add-one}
use Rattle.std.proofs.lemmas.List.{nil_from_length}
use Rattle.rw_cover_matrix.specs.declared.pattern.Pattern.{Pattern}
use Rattle.rw_cover_matrix.specs.Matching.{PlainPattern, plain_row, plain_rows}
use Rattle.rw_cover_matrix.specs.Coverage.{Decides}
use Rattle.rw_cover_matrix.specs.Columns.{group, shorter_rows, column_count, AreWithin, IsReached, IsOpen, HasOpen, rows_nodes}
use Rattle.rw_cover_matrix.proofs.Deciding.{IsMissing, decides_none, decides_open, decides_all, decides_missing, decides_uncovered}
use Rattle.rw_cover_matrix.proofs.Turned.{decides_turned, turned_within, turned_reached, turned_counted, turned_nodes}
use Rattle.rw_cover_matrix.proofs.Smaller.{rows_less, rows_nodes-append}

abbrev Rows : Type 0
Rows = List (List PlainPattern)

-- what the rows, in turned order, say of the answer
module _ (n : ℕ) (rows : Rows) (within : AreWithin (n + 1) rows) (reached : IsReached (n + 1) rows) where
  turned_in : AreWithin (suc n) (reverse rows)
  turned_in = turned_within (suc n) rows (subst (λ k. AreWithin k rows) (add-one n) within)

  turned_to : IsReached (suc n) (reverse rows)
  turned_to = turned_reached (suc n) rows (subst (λ k. IsReached k rows) (add-one n) reached)

  pub answer_uncovered : (tag : ℕ) (left : Rows) → tag < column_count n rows → left ≡ group n tag (reverse rows) ++ shorter_rows n (reverse rows) → Decides false left → Decides false rows
  answer_uncovered tag left lt is d =
      decides_turned false rows (decides_uncovered n (column_count n rows) (reverse rows) turned_in turned_to (turned_counted n rows) tag lt (subst (Decides false) is d))

  pub answer_all : 0 < column_count n rows → ((tag : ℕ) → tag < column_count n rows → Decides true (group n tag (reverse rows) ++ shorter_rows n (reverse rows))) → Decides true rows
  answer_all some done =
      decides_turned true rows (decides_all n (column_count n rows) (reverse rows) turned_in turned_to (turned_counted n rows) some done)

  pub answer_missing : (answer : Bool) (left : Rows) → left ≡ shorter_rows n (reverse rows) → Decides answer left → IsMissing n (reverse rows) (column_count n rows) → Decides answer rows
  answer_missing answer left is d m =
      decides_turned answer rows (decides_missing n (column_count n rows) (reverse rows) turned_in turned_to (turned_counted n rows) answer (subst (Decides answer) is d) m)

  pub group_less : (tag : ℕ) (left : Rows) → left ≡ group n tag (reverse rows) ++ shorter_rows n (reverse rows) → rows_nodes left < rows_nodes rows
  group_less tag left is =
      let a = ap rows_nodes is ∙ rows_nodes-append (group n tag (reverse rows)) (shorter_rows n (reverse rows)) in
      omega (arith, a, rows_less n tag (reverse rows) turned_to, turned_nodes rows)

  pub shorter_less : (left : Rows) → left ≡ shorter_rows n (reverse rows) → rows_nodes left < rows_nodes rows
  shorter_less left is =
      let a = ap rows_nodes is in
      omega (arith, a, rows_less n 0 (reverse rows) turned_to, turned_nodes rows)

-- the width of the rows, read from a slice of them
pub width_in : (w : ℕ) (slice rows : List (List Pattern)) → slice ≡ rows → 0 < w → AreWithin w (plain_rows slice) → AreWithin (w - 1 + 1) (plain_rows rows)
width_in w slice rows e some h = let same : w ≡ w - 1 + 1 = omega arith in subst (λ k. AreWithin k (plain_rows rows)) same (subst (λ r. AreWithin w (plain_rows r)) e h)

pub width_to : (w : ℕ) (slice rows : List (List Pattern)) → slice ≡ rows → 0 < w → (0 < w → IsReached w (plain_rows slice)) → IsReached (w - 1 + 1) (plain_rows rows)
width_to w slice rows e some h = let same : w ≡ w - 1 + 1 = omega arith in subst (λ k. IsReached k (plain_rows rows)) same (subst (λ r. IsReached w (plain_rows r)) e (h some))

-- rows of no width: there are none, or one has no patterns
pub no_width : (w : ℕ) (slice rows : List (List Pattern)) (empty : Bool) → slice ≡ rows → w ≡ 0 → AreWithin w (plain_rows slice) → (IsTrue empty → rows ≡ []) × (rows ≡ [] → IsTrue empty) → Decides (not empty) (plain_rows rows)
no_width w slice [] empty e z h b = subst (λ x. Decides (not x) []) (sym (b.1 refl)) decides_none
no_width w slice (row ∷ rows) true e z h b = let f : row ∷ rows ≡ [] = b.0 refl in cc
no_width w slice (row ∷ rows) false e z h b =
    let k : AreWithin w (plain_rows (row ∷ rows)) = subst (λ r. AreWithin w (plain_rows r)) e h in
    let l : length (plain_row row) ≤ w = k.0 in
    decides_open (plain_rows (row ∷ rows)) (inl (subst IsOpen (sym (nil_from_length (plain_row row) (omega arith))) tt))

pub open_row : (slice rows : List (List Pattern)) → slice ≡ rows → HasOpen (plain_rows slice) → Decides true (plain_rows rows)
open_row slice rows e h = decides_open (plain_rows rows) (subst (λ r. HasOpen (plain_rows r)) e h)

pub if_ok_weaker : {T E : Type 0} (r : Result T E) {P Q : T → Type 0} → ((x : T) → P x → Q x) → IfOk r P → IfOk r Q
if_ok_weaker (Ok x) f h = f x h
if_ok_weaker (Err e) f h = tt
