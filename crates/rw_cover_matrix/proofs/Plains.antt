-- The plain form of each pattern, and of rows that grow or lose a pattern at their end.
use Rattle.std.proofs.Common.{◌≡◌, ◌∙◌, ℕ, suc, zero, ◌+◌, ◌≤◌, ◌<◌, inl, inr, List, [], ◌∷◌, ◌++◌, take, drop, drop-cons, add-one, length, map, get_or, reverse, Some, None, nat_eq, refl, sym, ap, subst, arith, if◌then◌else◌}
use Rattle.std.proofs.lemmas.List.{map-append, take_more, drop_more, append-nil, append_assoc, length-append}
use Rattle.rw_cover_matrix.specs.declared.pattern.Pattern.{Pattern}
use Rattle.rw_cover_matrix.specs.declared.pattern.Pattern.TheVariants as pat
use Rattle.rw_cover_matrix.specs.declared.pattern.Pattern.TheOpen.{Pattern-F}
use Rattle.rw_cover_matrix.specs.declared.pattern.Pattern.TheFolds.{fold-roll-Pattern}
use Rattle.rw_cover_matrix.specs.Matching.{PlainPattern, anything, constructed, pattern_parts, parts_list, pattern_step, plain, plain_row, plain_rows}
use Rattle.rw_cover_matrix.proofs.Turned.{reverse-snoc, group-cons, shorter-cons, group-nil, shorter-nil, within_front}
use Rattle.rw_cover_matrix.specs.Columns.{group, shorter_rows, cell_at, grown_cell, grown, shorter_cell, shorter, cell_count, column_count, AreWithin, IsReached, IsOpen, HasOpen}

pub plain-Any : plain pat.Any ≡ anything
plain-Any = ap plain (sym pat.rolls-Any) ∙ fold-roll-Pattern PlainPattern pattern_step Pattern-F.Any

pub plain-Con : (place among : ℕ) (parts : List Pattern) → plain (pat.Con place among parts) ≡ constructed place among (pattern_parts (plain_row parts))
plain-Con place among parts = ap plain (sym (pat.rolls-Con place among parts)) ∙ fold-roll-Pattern PlainPattern pattern_step (Pattern-F.Con place among parts)

pub parts_back : (row : List PlainPattern) → parts_list (pattern_parts row) ≡ row
parts_back [] = refl
parts_back (p ∷ ps) = ap (λ x. p ∷ x) (parts_back ps)

-- == The pattern in a column ==

pub cell_in : (row : List Pattern) (n : ℕ) (d : Pattern) → n < length row → cell_at n (plain_row row) ≡ Some (plain (get_or row n d))
cell_in [] n d h = absurd (omega arith)
cell_in (p ∷ ps) zero d h = refl
cell_in (p ∷ ps) (suc n) d h = cell_in ps n d (omega arith)

pub cell_past : (row : List Pattern) (n : ℕ) → length row ≤ n → cell_at n (plain_row row) ≡ None
cell_past [] n h = refl
cell_past (p ∷ ps) zero h = absurd (omega arith)
cell_past (p ∷ ps) (suc n) h = cell_past ps n (omega arith)

pub count_past : (row : List Pattern) (n others : ℕ) → length row ≤ n → cell_count (cell_at n (plain_row row)) others ≡ others
count_past row n others h = ap (λ c. cell_count c others) (cell_past row n h)

pub count_any : (row : List Pattern) (n : ℕ) (p : Pattern) (others : ℕ) → n < length row → p ≡ get_or row n p → p ≡ pat.Any → cell_count (cell_at n (plain_row row)) others ≡ others
count_any row n p others h e is = ap (λ c. cell_count c others) (cell_in row n p h ∙ ap (λ q. Some (plain q)) (sym e ∙ is) ∙ ap Some plain-Any)

pub count_con : (row : List Pattern) (n : ℕ) (p : Pattern) (place among : ℕ) (parts : List Pattern) (others : ℕ) → n < length row → p ≡ get_or row n p → p ≡ pat.Con place among parts → cell_count (cell_at n (plain_row row)) others ≡ among
count_con row n p place among parts others h e is =
    ap (λ c. cell_count c others) (cell_in row n p h ∙ ap (λ q. Some (plain q)) (sym e ∙ is) ∙ ap Some (plain-Con place among parts))

-- == A row that loses its last pattern ==

take_whole : (row : List Pattern) (n : ℕ) → length row ≤ n → take n (plain_row row) ≡ plain_row row
take_whole [] zero h = refl
take_whole [] (suc n) h = refl
take_whole (p ∷ ps) zero h = absurd (omega arith)
take_whole (p ∷ ps) (suc n) h = ap (λ x. plain p ∷ x) (take_whole ps n (omega arith))

take_front : (front : List Pattern) (p : Pattern) (n : ℕ) → length front ≡ n → take n (plain_row (front ++ p ∷ [])) ≡ plain_row front
take_front [] p zero h = refl
take_front [] p (suc n) h = absurd (omega arith)
take_front (q ∷ qs) p zero h = absurd (omega arith)
take_front (q ∷ qs) p (suc n) h = ap (λ x. plain q ∷ x) (take_front qs p n (omega arith))

cell_last : (front : List Pattern) (p : Pattern) (n : ℕ) → length front ≡ n → cell_at n (plain_row (front ++ p ∷ [])) ≡ Some (plain p)
cell_last [] p zero h = refl
cell_last [] p (suc n) h = absurd (omega arith)
cell_last (q ∷ qs) p zero h = absurd (omega arith)
cell_last (q ∷ qs) p (suc n) h = cell_last qs p n (omega arith)

pub shorter_past : (row : List Pattern) (n : ℕ) → length row ≤ n → shorter n (plain_row row) ≡ plain_row row ∷ []
shorter_past row n h = ap (shorter_cell (take n (plain_row row))) (cell_past row n h) ∙ ap (λ x. x ∷ []) (take_whole row n h)

pub grown_past : (row : List Pattern) (n t : ℕ) → length row ≤ n → grown n t (plain_row row) ≡ []
grown_past row n t h = ap (grown_cell t (take n (plain_row row))) (cell_past row n h)

pub shorter_cut : (row front : List Pattern) (p : Pattern) (n : ℕ) → row ≡ front ++ p ∷ [] → length front ≡ n → shorter n (plain_row row) ≡ shorter_cell (plain_row front) (Some (plain p))
shorter_cut row front p n e h =
    ap (λ r. shorter n (plain_row r)) e
    ∙ ap (shorter_cell (take n (plain_row (front ++ p ∷ [])))) (cell_last front p n h)
    ∙ ap (λ f. shorter_cell f (Some (plain p))) (take_front front p n h)

pub grown_cut : (row front : List Pattern) (p : Pattern) (n t : ℕ) → row ≡ front ++ p ∷ [] → length front ≡ n → grown n t (plain_row row) ≡ grown_cell t (plain_row front) (Some (plain p))
grown_cut row front p n t e h =
    ap (λ r. grown n t (plain_row r)) e
    ∙ ap (grown_cell t (take n (plain_row (front ++ p ∷ [])))) (cell_last front p n h)
    ∙ ap (λ f. grown_cell t f (Some (plain p))) (take_front front p n h)

pub front_length : (row front : List Pattern) (p : Pattern) (n : ℕ) → row ≡ front ++ p ∷ [] → n < length row → length row ≤ n + 1 → length front ≡ n
front_length row front p n e h k = let m = ap length e ∙ length-append front (p ∷ []) in omega arith

-- == Rows that grow ==

pub pushed_row : (new old : List (List Pattern)) (row : List Pattern) → new ≡ old ++ row ∷ [] → plain_rows new ≡ plain_rows old ++ plain_row row ∷ []
pushed_row new old row e = ap plain_rows e ∙ map-append plain_row old (row ∷ [])

turned_left : (left front : List (List Pattern)) (row : List Pattern) → left ≡ front ++ row ∷ [] → reverse (plain_rows left) ≡ plain_row row ∷ reverse (plain_rows front)
turned_left left front row e = ap reverse (pushed_row left front row e) ∙ reverse-snoc (plain_rows front) (plain_row row)

-- a width: no row is longer, and if it isn't 0 some row is as long
pub record IsWidth (n : ℕ) (rows : List (List PlainPattern)) : Type 0 where
  pub within : AreWithin n rows
  pub reached : 0 < n → IsReached n rows

within_more : (m n : ℕ) (rows : List (List PlainPattern)) (row : List PlainPattern) → m ≤ n → length row ≤ n → AreWithin m rows → AreWithin n (rows ++ row ∷ [])
within_more m n [] row h k w = (k, tt)
within_more m n (r ∷ rows) row h k w = (let l : length r ≤ m = w.0 in omega arith, within_more m n rows row h k w.1)

reached_more : (n : ℕ) (rows : List (List PlainPattern)) (row : List PlainPattern) → IsReached n rows → IsReached n (rows ++ row ∷ [])
reached_more n [] row h = absurd h
reached_more n (r ∷ rows) row (inl e) = inl e
reached_more n (r ∷ rows) row (inr h) = inr (reached_more n rows row h)

reached_last : (n : ℕ) (rows : List (List PlainPattern)) (row : List PlainPattern) → length row ≡ n → IsReached n (rows ++ row ∷ [])
reached_last n [] row e = inl e
reached_last n (r ∷ rows) row e = inr (reached_last n rows row e)

pub width_kept : (n : ℕ) (rows : List (List PlainPattern)) (row : List PlainPattern) → length row ≤ n → IsWidth n rows → IsWidth n (rows ++ row ∷ [])
width_kept n rows row h w = record { within = within_more n n rows row (omega arith) h w.within; reached = λ some. reached_more n rows row (w.reached some) }

pub width_more : (n : ℕ) (rows : List (List PlainPattern)) (row : List PlainPattern) → n ≤ length row → IsWidth n rows → IsWidth (length row) (rows ++ row ∷ [])
width_more n rows row h w = record { within = within_more n (length row) rows row h (omega arith) w.within; reached = λ some. reached_last (length row) rows row refl }

pub plain_length : (row : List Pattern) → length (plain_row row) ≡ length row
plain_length [] = refl
plain_length (p ∷ ps) = ap suc (plain_length ps)

-- of the rows so far and one more
pub take_plain : (rows : List (List Pattern)) (i : ℕ) (row : List Pattern) → i < length rows → row ≡ get_or rows i row → plain_rows (take (i + 1) rows) ≡ plain_rows (take i rows) ++ plain_row row ∷ []
take_plain rows i row h e =
    pushed_row (take (i + 1) rows) (take i rows) row (take_more rows i row h ∙ ap (λ r. take i rows ++ r ∷ []) (sym e))

pub width_step_kept : (n : ℕ) (rows : List (List Pattern)) (i : ℕ) (row : List Pattern) → i < length rows → row ≡ get_or rows i row → length row ≤ n → IsWidth n (plain_rows (take i rows)) → IsWidth n (plain_rows (take (i + 1) rows))
width_step_kept n rows i row h e k w = subst (IsWidth n) (sym (take_plain rows i row h e)) (width_kept n (plain_rows (take i rows)) (plain_row row) (omega (arith, plain_length row)) w)

pub width_step_more : (n m : ℕ) (rows : List (List Pattern)) (i : ℕ) (row : List Pattern) → i < length rows → row ≡ get_or rows i row → n ≤ m → m ≡ length row → IsWidth n (plain_rows (take i rows)) → IsWidth m (plain_rows (take (i + 1) rows))
width_step_more n m rows i row h e k is w =
    subst (λ x. IsWidth x (plain_rows (take (i + 1) rows))) (plain_length row ∙ sym is)
    (subst (IsWidth (length (plain_row row))) (sym (take_plain rows i row h e)) (width_more n (plain_rows (take i rows)) (plain_row row) (omega (arith, plain_length row)) w))

-- a wildcard before wildcards
pub open_more : (row : List Pattern) (i : ℕ) (p : Pattern) → i < length row → p ≡ get_or row i p → p ≡ pat.Any → IsOpen (plain_row (drop (i + 1) row)) → IsOpen (plain_row (drop i row))
open_more row i p h e any rest =
    subst (λ (ps : List PlainPattern). IsOpen ps)
    (sym (ap plain_row (drop-cons row i p h) ∙ ap (λ (q : Pattern). plain q ∷ plain_row (drop (suc i) row)) (sym e ∙ any) ∙ ap (λ (q : PlainPattern). q ∷ plain_row (drop (suc i) row)) plain-Any))
    (subst (λ (n : ℕ). IsOpen (plain_row (drop n row))) (add-one i) rest)

pub open_at : (rows : List (List Pattern)) (i : ℕ) (row : List Pattern) → i < length rows → row ≡ get_or rows i row → IsOpen (plain_row row) → HasOpen (plain_rows rows)
open_at [] i row h e k = absurd (omega arith)
open_at (r ∷ rows) zero row h e k = inl (subst (λ x. IsOpen (plain_row x)) e k)
open_at (r ∷ rows) (suc i) row h e k = inr (open_at rows i row (omega arith) e k)

-- what the first constructor says, of the rows that are left
pub count_step : (rows : List (List Pattern)) (i : ℕ) (row : List Pattern) (n : ℕ) → i < length rows → row ≡ get_or rows i row → column_count n (plain_rows (drop i rows)) ≡ cell_count (cell_at n (plain_row row)) (column_count n (plain_rows (drop (i + 1) rows)))
count_step rows i row n h e =
    ap (λ r. column_count n (plain_rows r)) (drop_more rows i row h)
    ∙ ap (λ r. cell_count (cell_at n (plain_row r)) (column_count n (plain_rows (drop (i + 1) rows)))) (sym e)

-- == What is added for one row ==

pub add_past : (new old : List (List Pattern)) (row : List Pattern) (n : ℕ) → new ≡ old ++ row ∷ [] → length row ≤ n → plain_rows new ≡ plain_rows old ++ shorter n (plain_row row)
add_past new old row n e h = pushed_row new old row e ∙ ap (λ x. plain_rows old ++ x) (sym (shorter_past row n h))

pub add_any : (new old : List (List Pattern)) (front : List Pattern) (p : Pattern) → new ≡ old ++ front ∷ [] → p ≡ pat.Any → plain_rows new ≡ plain_rows old ++ shorter_cell (plain_row front) (Some (plain p))
add_any new old front p e any =
    pushed_row new old front e ∙ ap (λ q. plain_rows old ++ shorter_cell (plain_row front) (Some q)) (sym (ap plain any ∙ plain-Any))

pub none_past : (old : List (List PlainPattern)) (row : List Pattern) (n t : ℕ) → length row ≤ n → old ≡ old ++ grown n t (plain_row row)
none_past old row n t h = sym (append-nil old) ∙ ap (λ x. old ++ x) (sym (grown_past row n t h))

pub none_any : (old : List (List PlainPattern)) (front : List Pattern) (p : Pattern) (t : ℕ) → p ≡ pat.Any → old ≡ old ++ grown_cell t (plain_row front) (Some (plain p))
none_any old front p t any = sym (append-nil old) ∙ ap (λ q. old ++ grown_cell t (plain_row front) (Some q)) (sym (ap plain any ∙ plain-Any))

pub add_con : (old new : List (List PlainPattern)) (front whole parts : List Pattern) (p : Pattern) (t place among : ℕ) → new ≡ old ++ (if nat_eq place t then plain_row whole ∷ [] else []) → p ≡ pat.Con place among parts → whole ≡ front ++ parts → new ≡ old ++ grown_cell t (plain_row front) (Some (plain p))
add_con old new front whole parts p t place among e con w =
    e
    ∙ ap (λ x. old ++ (if nat_eq place t then x ∷ [] else [])) (ap plain_row w ∙ map-append plain front parts ∙ ap (λ x. plain_row front ++ x) (sym (parts_back (plain_row parts))))
    ∙ ap (λ q. old ++ grown_cell t (plain_row front) (Some q)) (sym (ap plain con ∙ plain-Con place among parts))

pub kept_con : (old new : List (List Pattern)) (front parts : List Pattern) (p : Pattern) (place among : ℕ) → new ≡ old → p ≡ pat.Con place among parts → plain_rows new ≡ plain_rows old ++ shorter_cell (plain_row front) (Some (plain p))
kept_con old new front parts p place among e con =
    ap plain_rows e ∙ sym (append-nil (plain_rows old))
    ∙ ap (λ q. plain_rows old ++ shorter_cell (plain_row front) (Some q)) (sym (ap plain con ∙ plain-Con place among parts))

-- a row that reaches the column is what stands before it and its last pattern
pub cut_shorter : (old new : List (List PlainPattern)) (row front : List Pattern) (p : Pattern) (n : ℕ) → row ≡ front ++ p ∷ [] → n < length row → length row ≤ n + 1 → new ≡ old ++ shorter_cell (plain_row front) (Some (plain p)) → new ≡ old ++ shorter n (plain_row row)
cut_shorter old new row front p n is h k e = e ∙ ap (λ x. old ++ x) (sym (shorter_cut row front p n is (front_length row front p n is h k)))

pub cut_grown : (old new : List (List PlainPattern)) (row front : List Pattern) (p : Pattern) (n t : ℕ) → row ≡ front ++ p ∷ [] → n < length row → length row ≤ n + 1 → new ≡ old ++ grown_cell t (plain_row front) (Some (plain p)) → new ≡ old ++ grown n t (plain_row row)
cut_grown old new row front p n t is h k e = e ∙ ap (λ x. old ++ x) (sym (grown_cut row front p n t is (front_length row front p n is h k)))

-- of the rows that are left, the last one goes
pub last_within : (left front : List (List Pattern)) (row : List Pattern) (n : ℕ) → left ≡ front ++ row ∷ [] → AreWithin n (plain_rows left) → AreWithin n (plain_rows front) × (length row ≤ n)
last_within left front row n e h =
    let both = within_front n (plain_rows front) (plain_row row ∷ []) (subst (AreWithin n) (pushed_row left front row e) h) in
    (both.0, let k : length (plain_row row) ≤ n = both.1.0 in omega (arith, plain_length row))

pub get_plain : (groups : List (List (List Pattern))) (t : ℕ) → get_or (map plain_rows groups) t [] ≡ plain_rows (get_or groups t [])
get_plain [] t = refl
get_plain (g ∷ groups) zero = refl
get_plain (g ∷ groups) (suc t) = get_plain groups t

pub group_step : (n t : ℕ) (left front : List (List Pattern)) (row : List Pattern) (new old all : List (List PlainPattern)) → left ≡ front ++ row ∷ [] → new ≡ old ++ grown n t (plain_row row) → old ++ group n t (reverse (plain_rows left)) ≡ all → new ++ group n t (reverse (plain_rows front)) ≡ all
group_step n t left front row new old all e is h =
    ap (λ x. x ++ group n t (reverse (plain_rows front))) is
    ∙ append_assoc old (grown n t (plain_row row)) (group n t (reverse (plain_rows front)))
    ∙ ap (λ x. old ++ x) (sym (group-cons n t (plain_row row) (reverse (plain_rows front))))
    ∙ ap (λ x. old ++ group n t x) (sym (turned_left left front row e))
    ∙ h

pub shorter_step : (n : ℕ) (left front : List (List Pattern)) (row : List Pattern) (new old all : List (List PlainPattern)) → left ≡ front ++ row ∷ [] → new ≡ old ++ shorter n (plain_row row) → old ++ shorter_rows n (reverse (plain_rows left)) ≡ all → new ++ shorter_rows n (reverse (plain_rows front)) ≡ all
shorter_step n left front row new old all e is h =
    ap (λ x. x ++ shorter_rows n (reverse (plain_rows front))) is
    ∙ append_assoc old (shorter n (plain_row row)) (shorter_rows n (reverse (plain_rows front)))
    ∙ ap (λ x. old ++ x) (sym (shorter-cons n (plain_row row) (reverse (plain_rows front))))
    ∙ ap (λ x. old ++ shorter_rows n x) (sym (turned_left left front row e))
    ∙ h

pub group_end : (n t : ℕ) (left : List (List Pattern)) (groups : List (List (List Pattern))) (all : List (List PlainPattern)) → left ≡ [] → plain_rows (get_or groups t []) ++ group n t (reverse (plain_rows left)) ≡ all → get_or (map plain_rows groups) t [] ≡ all
group_end n t left groups all e h =
    get_plain groups t ∙ sym (append-nil (plain_rows (get_or groups t [])))
    ∙ ap (λ x. plain_rows (get_or groups t []) ++ x) (sym (ap (λ r. group n t (reverse (plain_rows r))) e ∙ group-nil n t)) ∙ h

pub shorter_end : (n : ℕ) (left rows : List (List Pattern)) (all : List (List PlainPattern)) → left ≡ [] → plain_rows rows ++ shorter_rows n (reverse (plain_rows left)) ≡ all → plain_rows rows ≡ all
shorter_end n left rows all e h =
    sym (append-nil (plain_rows rows)) ∙ ap (λ x. plain_rows rows ++ x) (sym (ap (λ r. shorter_rows n (reverse (plain_rows r))) e ∙ shorter-nil n)) ∙ h
