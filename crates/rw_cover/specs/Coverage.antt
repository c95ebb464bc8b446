-- E14: where the patterns of a program don't cover (Haskell 2010 Report, section 3.17.2).
use Rattle.std.specs.Prelude.{ℕ, List, [], ◌∷◌, ◌++◌, true, false, ◌≡◌, ◌⊎◌}
use Rattle.std.specs.List.{flat_map}
use Rattle.rw_base.specs.declared.place.Place.{Place}
use Rattle.rw_scope_rules.specs.declared.binding.Bound.{Bound}
use Rattle.rw_tree.specs.Trees.{lambda, case_of, Alternative, alternative}
use Rattle.rw_tree.specs.Trees.{local_function, local_pattern, bind_statement}
use Rattle.rw_tree.specs.Declarations.{Declaration, function_declaration, PlainProgram}
use Rattle.rw_scope_rules.specs.Nodes.{Node, expression_node, binding_node, statement_node, declaration_nodes, clauses_of}
use Rattle.rw_cover_matrix.specs.Matching.{PlainPattern}
use Rattle.rw_cover_matrix.specs.Coverage.{Decides}
use Rattle.rw_cover.specs.declared.known.Known.{Known}
use Rattle.rw_cover.specs.Rows.{known_of, counts_of, matrix_row, counted_row, counted_rows}

-- rows that have to cover, and the place where E14 is broken if they don't
pub record Group : Type 0 where
  pub place : Place
  pub rows : List (List PlainPattern)

module _ (counts : List ℕ) (known : Known) where
  -- of a function: at its first clause
  abbrev pub clauses_group : List (Alternative Bound) → List Group
  clauses_group [] = []
  clauses_group (alternative a pats side wheres ∷ others) =
      record { place = a.span.first; rows = counted_rows counts known (alternative a pats side wheres ∷ others) } ∷ []

  -- of a `case`, a lambda, a local function, a pattern binding or a `<-`
  abbrev pub node_group : Node Bound → List Group
  node_group (expression_node (case_of a scrutinee rows)) = record { place = a.span.first; rows = counted_rows counts known (clauses_of rows) } ∷ []
  node_group (expression_node (lambda a pats body)) = record { place = a.span.first; rows = matrix_row counts pats ∷ [] } ∷ []
  node_group (binding_node (local_function a x clauses)) = clauses_group (clauses_of clauses)
  node_group (binding_node (local_pattern a bound)) = record { place = a.span.first; rows = counted_row counts known bound } ∷ []
  node_group (statement_node (bind_statement a p e)) = record { place = a.span.first; rows = matrix_row counts (p ∷ []) ∷ [] } ∷ []
  node_group _ = []

  -- of a declaration: its clauses, and the nodes inside
  abbrev pub declaration_groups : Declaration Bound → List Group
  declaration_groups (function_declaration a x clauses) = clauses_group clauses ++ flat_map node_group (declaration_nodes (function_declaration a x clauses))
  declaration_groups _ = []

-- of a program, in the order of its tree
abbrev pub groups_of : PlainProgram Bound → List Group
groups_of program = flat_map (declaration_groups (counts_of program.declarations) (known_of program.declarations)) program.declarations

-- these are the places of the groups that don't cover, in their order. Whether a group covers is the same for all types at
-- which its patterns may stand, so for all closed instances of the types that typing finds
abbrev pub AreUncovered : List Group → List Place → Type 0
AreUncovered [] places = places ≡ []
AreUncovered (g ∷ gs) places =
    (Decides true g.rows × AreUncovered gs places) ⊎ ((others : List Place) × (places ≡ g.place ∷ others) × Decides false g.rows × AreUncovered gs others)
