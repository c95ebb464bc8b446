-- What is left of rows has fewer patterns when their last column is taken away.
use Rattle.std.proofs.Common.{◌≡◌, ℕ, suc, zero, ◌+◌, ◌≤◌, ◌<◌, inl, inr, Bool, true, false, List, [], ◌∷◌, ◌++◌, take, length, Option, Some, None, nat_eq, refl, sym, subst, arith, if◌then◌else◌}
use Rattle.rw_cover_matrix.specs.Matching.{PlainPattern, anything, constructed, PlainPatterns, no_patterns, more_patterns, parts_list}
use Rattle.rw_cover_matrix.specs.Columns.{cell_at, grown_cell, grown, group, shorter_cell, shorter, shorter_rows, IsReached, pattern_nodes, parts_nodes, row_nodes, rows_nodes}

pub row_nodes-append : (a b : List PlainPattern) → row_nodes (a ++ b) ≡ row_nodes a + row_nodes b
row_nodes-append [] b = omega arith
row_nodes-append (p ∷ a) b = omega (arith, row_nodes-append a b)

pub rows_nodes-append : (a b : List (List PlainPattern)) → rows_nodes (a ++ b) ≡ rows_nodes a + rows_nodes b
rows_nodes-append [] b = omega arith
rows_nodes-append (row ∷ a) b = omega (arith, rows_nodes-append a b)

parts_list_nodes : (parts : PlainPatterns) → row_nodes (parts_list parts) ≡ parts_nodes parts
parts_list_nodes no_patterns = refl
parts_list_nodes (more_patterns p ps) = omega (arith, parts_list_nodes ps)

abbrev cell_nodes : Option PlainPattern → ℕ
cell_nodes None = 0
cell_nodes (Some p) = pattern_nodes p

row_cut : (n : ℕ) (row : List PlainPattern) → row_nodes (take n row) + cell_nodes (cell_at n row) ≤ row_nodes row
row_cut zero [] = omega arith
row_cut (suc n) [] = omega arith
row_cut zero (p ∷ ps) = omega arith
row_cut (suc n) (p ∷ ps) = omega (arith, row_cut n ps)

grown_nodes : (b : Bool) (front : List PlainPattern) (parts : PlainPatterns) → rows_nodes (if b then (front ++ parts_list parts) ∷ [] else []) ≤ row_nodes front + parts_nodes parts
grown_nodes false front parts = omega arith
grown_nodes true front parts = omega (arith, row_nodes-append front (parts_list parts), parts_list_nodes parts)

cell_smaller : (tag : ℕ) (front : List PlainPattern) (cell : Option PlainPattern) → rows_nodes (grown_cell tag front cell) + rows_nodes (shorter_cell front cell) ≤ row_nodes front + cell_nodes cell
cell_smaller tag front None = omega arith
cell_smaller tag front (Some anything) = omega arith
cell_smaller tag front (Some (constructed place among parts)) = omega (arith, grown_nodes (nat_eq place tag) front parts)

some_nodes : (tag : ℕ) (front : List PlainPattern) (p : PlainPattern) → rows_nodes (grown_cell tag front (Some p)) + rows_nodes (shorter_cell front (Some p)) < row_nodes front + cell_nodes (Some p)
some_nodes tag front anything = omega arith
some_nodes tag front (constructed place among parts) = omega (arith, grown_nodes (nat_eq place tag) front parts)

cell_there : (n : ℕ) (row : List PlainPattern) → length row ≡ suc n → (p : PlainPattern) × (cell_at n row ≡ Some p)
cell_there n [] h = absurd (omega arith)
cell_there zero (p ∷ ps) h = (p, refl)
cell_there (suc n) (p ∷ ps) h = cell_there n ps (omega arith)

row_smaller : (n tag : ℕ) (row : List PlainPattern) → rows_nodes (grown n tag row) + rows_nodes (shorter n row) ≤ row_nodes row
row_smaller n tag row = omega (arith, cell_smaller tag (take n row) (cell_at n row), row_cut n row)

row_less : (n tag : ℕ) (row : List PlainPattern) → length row ≡ suc n → rows_nodes (grown n tag row) + rows_nodes (shorter n row) < row_nodes row
row_less n tag row h =
    let there = cell_there n row h in
    let less : rows_nodes (grown_cell tag (take n row) (cell_at n row)) + rows_nodes (shorter_cell (take n row) (cell_at n row)) < row_nodes (take n row) + cell_nodes (cell_at n row) =
    subst (λ c. rows_nodes (grown_cell tag (take n row) c) + rows_nodes (shorter_cell (take n row) c) < row_nodes (take n row) + cell_nodes c) (sym there.1) (some_nodes tag (take n row) there.0) in
    omega (arith, less, row_cut n row)

pub rows_smaller : (n tag : ℕ) (rows : List (List PlainPattern)) → rows_nodes (group n tag rows) + rows_nodes (shorter_rows n rows) ≤ rows_nodes rows
unfolding group shorter_rows
rows_smaller n tag [] = omega arith
rows_smaller n tag (row ∷ rows) =
    omega (arith, rows_nodes-append (grown n tag row) (group n tag rows), rows_nodes-append (shorter n row) (shorter_rows n rows), row_smaller n tag row, rows_smaller n tag rows)

pub rows_less : (n tag : ℕ) (rows : List (List PlainPattern)) → IsReached (suc n) rows → rows_nodes (group n tag rows) + rows_nodes (shorter_rows n rows) < rows_nodes rows
unfolding group shorter_rows
rows_less n tag [] h = absurd h
rows_less n tag (row ∷ rows) (inl e) =
    omega (arith, rows_nodes-append (grown n tag row) (group n tag rows), rows_nodes-append (shorter n row) (shorter_rows n rows), row_less n tag row e, rows_smaller n tag rows)
rows_less n tag (row ∷ rows) (inr h) =
    omega (arith, rows_nodes-append (grown n tag row) (group n tag rows), rows_nodes-append (shorter n row) (shorter_rows n rows), row_smaller n tag row, rows_less n tag rows h)
