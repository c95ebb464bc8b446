-- Coverage: no value is left over.
use Rattle.std.specs.Prelude.{Bool, ◌↔◌, IsTrue, List}
use Rattle.std.specs.List.{list_any}
use Rattle.rw_cover_matrix.specs.Values.{Shapes, Values, AreValues}
use Rattle.rw_cover_matrix.specs.Matching.{PlainPattern, row_matches, AreRowsOf}

-- whether values, one for each column, match some row
abbrev pub some_row_matches : List (List PlainPattern) → Values → Bool
some_row_matches rows given = list_any (λ row. row_matches row given) rows

-- all values of columns of these types match some row
abbrev pub Covers : Shapes → List (List PlainPattern) → Type 0
Covers columns rows = (given : Values) → AreValues given columns → IsTrue (some_row_matches rows given)

-- the answer says whether the rows cover, whatever the types of the columns are at which the rows may stand
abbrev pub Decides : Bool → List (List PlainPattern) → Type 0
Decides answer rows = (columns : Shapes) → AreRowsOf rows columns → IsTrue answer ↔ Covers columns rows
