-- The rows of patterns that have to cover, as the tree has them, and that one of them takes each value (Haskell 2010 Report, sections
-- 3.13, 3.17.2 and 4.4.3).
use Rattle.std.specs.Prelude.{◌≡◌, ◌&&◌, ℕ, Bool, List, [], ◌∷◌, ◌++◌, length, true, false, if◌then◌else◌}
use Rattle.std.specs.List.{flat_map, AllByRecursion}
use Rattle.rw_scope_rules.specs.declared.binding.Bound.{Bound}
use Rattle.rw_scope_rules.specs.Nodes.{Node, expression_node, binding_node, statement_node, declaration_nodes, clauses_of}
use Rattle.rw_tree.specs.Patterns.{Pattern}
use Rattle.rw_tree.specs.Trees.{lambda, case_of, Alternative, alternative, RightSide, plain_side, guarded_side, no_bodies, more_bodies, local_function, local_pattern, bind_statement}
use Rattle.rw_tree.specs.Declarations.{Declaration, function_declaration, PlainProgram}
use Rattle.rw_types_solving.specs.Types.{Ty}
use Rattle.rw_types_rules.specs.Schemes.{World}
use Rattle.rw_cover_matrix.specs.Values.{Shape, Shapes, Values}
use Rattle.rw_cover.specs.declared.known.Known.{Known}
use Rattle.rw_cover.specs.Rows.{is_total, known_of}
use Rattle.rw_cover_laws.specs.Shapes.{fields_in, HaveShapes}
use Rattle.rw_meaning.specs.Results.{Thunks, how_many}
use Rattle.rw_meaning_matching.specs.Standing.{StandForEach, AreFirstValues}
use Rattle.rw_meaning_matching.specs.Exact.{NamesConstructors, IsExactRow}
use Rattle.rw_meaning_matching.specs.Matching.{seen_by_row, GoesAs, row_matched}

-- == Rows of patterns, in the groups of `rw_cover` ==

-- the patterns of a row, and whether it counts
pub record PatternRow : Type 0 where
  pub counts : Bool
  pub patterns : List (Pattern Bound)

-- a guarded right side of the grammar has a body
abbrev pub has_body : RightSide Bound → Bool
has_body (plain_side body) = true
has_body (guarded_side no_bodies) = false
has_body (guarded_side (more_bodies b bs)) = true

module _ (known : Known) where
  -- the row of patterns with this right side
  abbrev pub row_with : List (Pattern Bound) → RightSide Bound → PatternRow
  row_with pats side = record { counts = is_total known side; patterns = pats }

  -- that of a clause or alternative that has a body
  abbrev pub pattern_row : Alternative Bound → List PatternRow
  pattern_row (alternative a pats side wheres) = if has_body side then row_with pats side ∷ [] else []

  abbrev pub pattern_rows : List (Alternative Bound) → List PatternRow
  pattern_rows clauses = flat_map pattern_row clauses

  -- in the order of `clauses_group`, `node_group` and `declaration_groups`
  abbrev pub clauses_rows : List (Alternative Bound) → List (List PatternRow)
  clauses_rows [] = []
  clauses_rows (c ∷ others) = pattern_rows (c ∷ others) ∷ []

  abbrev pub node_rows : Node Bound → List (List PatternRow)
  node_rows (expression_node (case_of a scrutinee rows)) = pattern_rows (clauses_of rows) ∷ []
  node_rows (expression_node (lambda a pats body)) = (record { counts = true; patterns = pats } ∷ []) ∷ []
  node_rows (binding_node (local_function a x clauses)) = clauses_rows (clauses_of clauses)
  node_rows (binding_node (local_pattern a bound)) = pattern_row bound ∷ []
  node_rows (statement_node (bind_statement a p e)) = (record { counts = true; patterns = p ∷ [] } ∷ []) ∷ []
  node_rows _ = []

  abbrev pub declaration_rows : Declaration Bound → List (List PatternRow)
  declaration_rows (function_declaration a x clauses) = clauses_rows clauses ++ flat_map node_rows (declaration_nodes (function_declaration a x clauses))
  declaration_rows _ = []

-- of a program: the rows of each of its groups
abbrev pub rows_of : PlainProgram Bound → List (List PatternRow)
rows_of program = flat_map (declaration_rows (known_of program.declarations)) program.declarations

-- in a row the names of constructors are bound to constructors, if to anything; and in each row of each group
abbrev pub RowNamesConstructors : PatternRow → Type 0
RowNamesConstructors r = AllByRecursion NamesConstructors r.patterns

abbrev pub AllNameConstructors : List (List PatternRow) → Type 0
AllNameConstructors groups = AllByRecursion (AllByRecursion RowNamesConstructors) groups

-- == At the types of the columns ==

-- groups of rows, each with the types of its columns: at every closed instance of these types the rows fit exactly, if their names of
-- constructors are bound to nothing else
abbrev pub FitExactly : World → List (List PatternRow) → List (List Ty) → Type 0
FitExactly world [] [] = Unit {0}
FitExactly world (rows ∷ groups) (types ∷ rest) =
    ((variables unknowns : ℕ → Shape) (columns : Shapes) → HaveShapes (fields_in world) variables unknowns columns types
    → AllByRecursion (λ r. RowNamesConstructors r → IsExactRow r.patterns columns) rows) × FitExactly world groups rest
FitExactly world _ _ = ⊥

-- this holds, unless the test does
abbrev pub Unless : Bool → Type 0 → Type 0
Unless true P = Unit {0}
Unless false P = P

module _ (program : List (Declaration Bound)) where
  -- Some row that counts takes these arguments, with what its variables see in the values that the arguments stand for, and no row before it is stuck:
  -- those that count are passed over, and of the others, whose guards may all fail, the patterns may match
  abbrev pub SomeTakes : List PatternRow → Values → Thunks → Type 0
  SomeTakes [] given ts = ⊥
  SomeTakes (r ∷ rows) given ts =
      (matches : Bool) × GoesAs program matches (row_matched program r.patterns ts) (seen_by_row r.patterns given) × Unless (matches && r.counts) (SomeTakes rows given ts)

  -- whatever values of the first columns arguments stand for, one by one, some row takes them, if each row has as many patterns
  abbrev pub TakeEach : Shapes → List PatternRow → Type 0
  TakeEach columns rows =
      (given : Values) (ts : Thunks) → AreFirstValues given columns → StandForEach program ts given → AllByRecursion (λ r. length r.patterns ≡ how_many ts) rows
      → SomeTakes rows given ts

  -- groups of rows, each with the types of its columns: so it is at every closed instance of these types
  abbrev pub AllTakeEach : World → List (List PatternRow) → List (List Ty) → Type 0
  AllTakeEach world [] [] = Unit {0}
  AllTakeEach world (rows ∷ groups) (types ∷ rest) =
      ((variables unknowns : ℕ → Shape) (columns : Shapes) → HaveShapes (fields_in world) variables unknowns columns types → TakeEach columns rows) × AllTakeEach world groups rest
  AllTakeEach world _ _ = ⊥
