-- The statement of `cover`: what its answers say of the groups of rows that a program has.
use Rattle.std.specs.Prelude.{◌≡◌, ◌∷◌, ◌++◌, List, false, Option}
use Rattle.std.specs.List.{AllByRecursion}
use Rattle.rw_base.specs.declared.place.Place.{Place}
use Rattle.rw_scope_rules.specs.Names.{earliest}
use Rattle.rw_cover_matrix.specs.Values.{Shapes, Values, AreValues}
use Rattle.rw_cover_matrix.specs.Matching.{PlainPattern, AreRowsOf}
use Rattle.rw_cover_matrix.specs.Coverage.{Covers, some_row_matches}
use Rattle.rw_cover.specs.Coverage.{Group, AreUncovered}

-- == Where E14 is broken ==

-- of the places of the groups that don't cover, this is the first in the source, or there is none
abbrev pub IsFirst : List Group → Option Place → Type 0
IsFirst groups first = (places : List Place) × AreUncovered groups places × (first ≡ earliest places)

-- rows that some types of their columns fit, as typing finds them. Of other rows `AreUncovered` says nothing
abbrev pub HaveTypes : List (List PlainPattern) → Type 0
HaveTypes rows = (columns : Shapes) × AreRowsOf rows columns

abbrev pub AllHaveTypes : List Group → Type 0
AllHaveTypes groups = AllByRecursion (λ g. HaveTypes g.rows) groups

-- == What that means for values ==

-- at all types at which the rows of a group may stand, each list of values of these types matches one of the rows
abbrev pub IsCovered : Group → Type 0
IsCovered g = (columns : Shapes) → AreRowsOf g.rows columns → Covers columns g.rows

-- at all types at which the rows of a group may stand, some list of values of these types matches none of the rows
abbrev pub LeavesOver : Group → Type 0
LeavesOver g = (columns : Shapes) → AreRowsOf g.rows columns → (given : Values) × AreValues given columns × (some_row_matches g.rows given ≡ false)

-- one of the groups, with this place, leaves values over
abbrev pub LeaveOverAt : List Group → Place → Type 0
LeaveOverAt groups place = (before : List Group) × (g : Group) × (after : List Group) × (groups ≡ before ++ g ∷ after) × (g.place ≡ place) × LeavesOver g
