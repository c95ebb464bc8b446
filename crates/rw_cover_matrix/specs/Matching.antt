-- Patterns as plain data, and which values match them (Haskell 2010 Report, section 3.17.2).
use Rattle.std.specs.Prelude.{ℕ, Bool, true, false, ◌&&◌, ◌≡◌, ◌<◌, List, [], ◌∷◌, map, nat_eq}
use Rattle.rw_cover_matrix.specs.declared.pattern.Pattern.{Pattern, fold-Pattern}
use Rattle.rw_cover_matrix.specs.declared.pattern.Pattern.TheOpen.{Pattern-F}
use Rattle.rw_cover_matrix.specs.Values.{Shape, opaque, data_of, Shapes, no_shapes, more_shapes, choices_count, fields_of, Value, opaque_value, built, Values, no_values, more_values}

mutual
  -- a pattern: it matches everything, or a constructor, by its place among so many of its type, with a pattern for each field
  pub data PlainPattern : Type 0 where
    anything : PlainPattern
    constructed : ℕ → ℕ → PlainPatterns → PlainPattern

  pub data PlainPatterns : Type 0 where
    no_patterns : PlainPatterns
    more_patterns : PlainPattern → PlainPatterns → PlainPatterns

-- a list of patterns as the parts of one, and back
abbrev pub pattern_parts : List PlainPattern → PlainPatterns
pattern_parts [] = no_patterns
pattern_parts (p ∷ ps) = more_patterns p (pattern_parts ps)

abbrev pub parts_list : PlainPatterns → List PlainPattern
parts_list no_patterns = []
parts_list (more_patterns p ps) = p ∷ parts_list ps

-- the plain form of a pattern, of a row of them, and of rows
abbrev pub pattern_step : Pattern-F PlainPattern → PlainPattern
pattern_step Pattern-F.Any = anything
pattern_step (Pattern-F.Con place among parts) = constructed place among (pattern_parts parts)

abbrev pub plain : Pattern → PlainPattern
plain = fold-Pattern PlainPattern pattern_step

abbrev pub plain_row : List Pattern → List PlainPattern
plain_row row = map plain row

abbrev pub plain_rows : List (List Pattern) → List (List PlainPattern)
plain_rows rows = map plain_row rows

-- whether a value matches a pattern: a constructor the same one, part by part. Fields behind the last part match
abbrev mutual
  pub matches : PlainPattern → Value → Bool
  matches anything value = true
  matches (constructed place among parts) opaque_value = false
  matches (constructed place among parts) (built tag fields) = nat_eq place tag && parts_match parts fields

  pub parts_match : PlainPatterns → Values → Bool
  parts_match no_patterns given = true
  parts_match (more_patterns p ps) no_values = false
  parts_match (more_patterns p ps) (more_values value given) = matches p value && parts_match ps given

-- whether values match a row of patterns, column by column. Columns behind the row's last pattern match
abbrev pub row_matches : List PlainPattern → Values → Bool
row_matches [] given = true
row_matches (p ∷ ps) no_values = false
row_matches (p ∷ ps) (more_values value given) = matches p value && row_matches ps given

-- the patterns that may stand at a type: a constructor is one of its own, which has so many
abbrev mutual
  pub IsOfShape : PlainPattern → Shape → Type 0
  IsOfShape anything shape = Unit {0}
  IsOfShape (constructed place among parts) opaque = ⊥
  IsOfShape (constructed place among parts) (data_of choices) =
      (among ≡ choices_count choices) × (place < choices_count choices) × ArePartsOf parts (fields_of place choices)

  pub ArePartsOf : PlainPatterns → Shapes → Type 0
  ArePartsOf no_patterns columns = Unit {0}
  ArePartsOf (more_patterns p ps) no_shapes = ⊥
  ArePartsOf (more_patterns p ps) (more_shapes shape columns) = IsOfShape p shape × ArePartsOf ps columns

abbrev pub IsRowOf : List PlainPattern → Shapes → Type 0
IsRowOf [] columns = Unit {0}
IsRowOf (p ∷ ps) no_shapes = ⊥
IsRowOf (p ∷ ps) (more_shapes shape columns) = IsOfShape p shape × IsRowOf ps columns

abbrev pub AreRowsOf : List (List PlainPattern) → Shapes → Type 0
AreRowsOf [] columns = Unit {0}
AreRowsOf (row ∷ rows) columns = IsRowOf row columns × AreRowsOf rows columns
