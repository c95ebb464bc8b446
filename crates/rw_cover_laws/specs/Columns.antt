-- The types of the columns of the rows that have to cover, as a typed tree has them (Haskell 2010 Report, sections 3.3, 3.13 to 3.14 and 4.4.3).
use Rattle.std.specs.Prelude.{ℕ, List, [], ◌∷◌, ◌++◌, map}
use Rattle.std.specs.List.{flat_map}
use Rattle.rw_tree.specs.Trees.{lambda, case_of, Alternative, alternative, local_function, local_pattern, bind_statement}
use Rattle.rw_scope_rules.specs.declared.binding.Bound.{Bound}
use Rattle.rw_tree.specs.Declarations.{Declaration, function_declaration, PlainProgram}
use Rattle.rw_scope_rules.specs.Nodes.{Node, expression_node, binding_node, statement_node, declaration_nodes, clauses_of}
use Rattle.rw_types_solving.specs.declared.term.Head.TheVariants as h
use Rattle.rw_types_solving.specs.Types.{Ty, app, Tys, none, more}
use Rattle.rw_types_rules.specs.Words.{function}
use Rattle.rw_types_rules.specs.Relabelled.{relabelled_declaration}
use Rattle.rw_types_rules.specs.Schemes.{World, world_of}
use Rattle.rw_types_rules.specs.TypedTrees.{TypedNode, erased, pattern_type, row_types, expression_type}
use Rattle.rw_cover_matrix.specs.Values.{Shape, Shapes}
use Rattle.rw_cover_matrix.specs.Matching.{AreRowsOf}
use Rattle.rw_cover_matrix.specs.Coverage.{Covers}
use Rattle.rw_cover.specs.Coverage.{Group}
use Rattle.rw_cover_laws.specs.Shapes.{fields_in, HaveShapes}

-- the arguments that a function of this type takes, one after the other
abbrev mutual
  pub arguments_of : Ty → List Ty
  arguments_of (app h.Fun parts) = argument_and_more parts
  arguments_of _ = []

  pub argument_and_more : Tys → List Ty
  argument_and_more (more from results) = from ∷ result_arguments results
  argument_and_more none = []

  pub result_arguments : Tys → List Ty
  result_arguments (more to others) = arguments_of to
  result_arguments none = []

-- of clauses: a column for each argument that their type takes. A row may leave out columns at its end
abbrev pub clauses_columns : List (Alternative TypedNode) → List (List Ty)
clauses_columns [] = []
clauses_columns (alternative a pats side wheres ∷ others) = arguments_of a.type ∷ []

-- of a node that has rows: in the order of `node_group` of `rw_cover`
abbrev pub node_columns : Node TypedNode → List (List Ty)
node_columns (expression_node (case_of a scrutinee rows)) = arguments_of (function (expression_type scrutinee) a.type) ∷ []
node_columns (expression_node (lambda a pats body)) = row_types pats ∷ []
node_columns (binding_node (local_function a x clauses)) = clauses_columns (clauses_of clauses)
node_columns (binding_node (local_pattern a bound)) = (a.type ∷ []) ∷ []
node_columns (statement_node (bind_statement a p e)) = (pattern_type p ∷ []) ∷ []
node_columns _ = []

abbrev pub declaration_columns : Declaration TypedNode → List (List Ty)
declaration_columns (function_declaration a x clauses) = clauses_columns clauses ++ flat_map node_columns (declaration_nodes (function_declaration a x clauses))
declaration_columns _ = []

-- groups of rows, each with the types of its columns: at every closed instance of these types the rows may stand
abbrev pub StandAt : World → List Group → List (List Ty) → Type 0
StandAt world [] [] = Unit {0}
StandAt world (g ∷ gs) (types ∷ rest) =
    ((variables unknowns : ℕ → Shape) (columns : Shapes) → HaveShapes (fields_in world) variables unknowns columns types → AreRowsOf g.rows columns) × StandAt world gs rest
StandAt world _ _ = ⊥

-- groups of rows, each with the types of its columns: at every closed instance of these types all values match one of the rows
abbrev pub AllMatch : World → List Group → List (List Ty) → Type 0
AllMatch world [] [] = Unit {0}
AllMatch world (g ∷ gs) (types ∷ rest) =
    ((variables unknowns : ℕ → Shape) (columns : Shapes) → HaveShapes (fields_in world) variables unknowns columns types → Covers columns g.rows) × AllMatch world gs rest
AllMatch world _ _ = ⊥

-- lists of types, each of which has a closed instance: what its variables and unknown types may stand for, and the shapes of that
abbrev pub HaveInstances : World → List (List Ty) → Type 0
HaveInstances world [] = Unit {0}
HaveInstances world (types ∷ rest) =
    ((variables : ℕ → Shape) × (unknowns : ℕ → Shape) × (columns : Shapes) × HaveShapes (fields_in world) variables unknowns columns types) × HaveInstances world rest

-- the data types and signatures of typed declarations, the declarations before they were typed, and the types of the columns of all their rows
abbrev pub world_in : List (Declaration TypedNode) → World
world_in typed = world_of (map (relabelled_declaration (λ a. a.node.span)) typed)

abbrev pub untyped : List (Declaration TypedNode) → PlainProgram Bound
untyped typed = record { declarations = map erased typed }

abbrev pub columns_of : List (Declaration TypedNode) → List (List Ty)
columns_of typed = flat_map declaration_columns typed
