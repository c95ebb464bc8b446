-- The last column of rows, and what is left of the rows when it is taken away.
use Rattle.std.specs.Prelude.{ℕ, suc, zero, ◌+◌, ◌≡◌, ◌≤◌, ◌⊎◌, List, [], ◌∷◌, ◌++◌, take, length, get_or, ◌<◌, Option, Some, None, nat_eq, if◌then◌else◌}
use Rattle.std.specs.List.{flat_map}
use Rattle.rw_cover_matrix.specs.Matching.{PlainPattern, anything, constructed, PlainPatterns, no_patterns, more_patterns, parts_list}

-- the pattern of a row in the column with this number, from 0
abbrev pub cell_at : ℕ → List PlainPattern → Option PlainPattern
cell_at n [] = None
cell_at zero (p ∷ ps) = Some p
cell_at (suc n) (p ∷ ps) = cell_at n ps

-- a constructor's row with this place: its parts stand in the place of the last column
abbrev pub grown_cell : ℕ → List PlainPattern → Option PlainPattern → List (List PlainPattern)
grown_cell tag front None = []
grown_cell tag front (Some anything) = []
grown_cell tag front (Some (constructed place among parts)) = if nat_eq place tag then (front ++ parts_list parts) ∷ [] else []

abbrev pub grown : ℕ → ℕ → List PlainPattern → List (List PlainPattern)
grown n tag row = grown_cell tag (take n row) (cell_at n row)

-- the rows of the constructor with this place
unfoldable pub group : ℕ → ℕ → List (List PlainPattern) → List (List PlainPattern)
group n tag rows = flat_map (grown n tag) rows

-- a row that has no constructor in the last column, without that column
abbrev pub shorter_cell : List PlainPattern → Option PlainPattern → List (List PlainPattern)
shorter_cell front None = front ∷ []
shorter_cell front (Some anything) = front ∷ []
shorter_cell front (Some (constructed place among parts)) = []

abbrev pub shorter : ℕ → List PlainPattern → List (List PlainPattern)
shorter n row = shorter_cell (take n row) (cell_at n row)

unfoldable pub shorter_rows : ℕ → List (List PlainPattern) → List (List PlainPattern)
shorter_rows n rows = flat_map (shorter n) rows

-- how many constructors the type of the column has, by the first constructor in it: 0 where there is none
abbrev pub cell_count : Option PlainPattern → ℕ → ℕ
cell_count None others = others
cell_count (Some anything) others = others
cell_count (Some (constructed place among parts)) others = among

abbrev pub column_count : ℕ → List (List PlainPattern) → ℕ
column_count n [] = 0
column_count n (row ∷ rows) = cell_count (cell_at n row) (column_count n rows)

-- no row has more patterns than this
abbrev pub AreWithin : ℕ → List (List PlainPattern) → Type 0
AreWithin n [] = Unit {0}
AreWithin n (row ∷ rows) = (length row ≤ n) × AreWithin n rows

-- some row has so many
abbrev pub IsReached : ℕ → List (List PlainPattern) → Type 0
IsReached n [] = ⊥
IsReached n (row ∷ rows) = (length row ≡ n) ⊎ IsReached n rows

-- a row that everything matches: it has wildcards alone, or nothing
abbrev pub IsOpen : List PlainPattern → Type 0
IsOpen [] = Unit {0}
IsOpen (anything ∷ ps) = IsOpen ps
IsOpen (constructed place among parts ∷ ps) = ⊥

-- some row is so
abbrev pub HasOpen : List (List PlainPattern) → Type 0
HasOpen [] = ⊥
HasOpen (row ∷ rows) = IsOpen row ⊎ HasOpen rows

-- these are the groups of the constructors from the first on
abbrev pub AreGroups : ℕ → List (List PlainPattern) → List (List (List PlainPattern)) → Type 0
AreGroups n rows groups = (tag : ℕ) → tag < length groups → get_or groups tag [] ≡ group n tag rows

-- a constructor that stands in no row, or no constructor at all
abbrev pub HasMissing : List (List (List PlainPattern)) → Type 0
HasMissing groups = (length groups ≡ 0) ⊎ ((tag : ℕ) × (tag < length groups) × (get_or groups tag [] ≡ []))

-- how many patterns stand in rows, parts of patterns among them
abbrev mutual
  pub pattern_nodes : PlainPattern → ℕ
  pattern_nodes anything = 1
  pattern_nodes (constructed place among parts) = 1 + parts_nodes parts

  pub parts_nodes : PlainPatterns → ℕ
  parts_nodes no_patterns = 0
  parts_nodes (more_patterns p ps) = pattern_nodes p + parts_nodes ps

abbrev pub row_nodes : List PlainPattern → ℕ
row_nodes [] = 0
row_nodes (p ∷ ps) = pattern_nodes p + row_nodes ps

abbrev pub rows_nodes : List (List PlainPattern) → ℕ
rows_nodes [] = 0
rows_nodes (row ∷ rows) = row_nodes row + rows_nodes rows
