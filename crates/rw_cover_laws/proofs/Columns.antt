-- The rows of a typed declaration stand at the types of its tree.
use Rattle.std.proofs.Common.{◌≡◌, refl, sym, subst, ℕ, List, [], ◌∷◌, ◌++◌, flat_map, map, Bool, true, false, if◌then◌else◌}
use Rattle.std.proofs.lemmas.Grind.{flat_map-append}
use Rattle.rw_scope_rules.specs.declared.binding.Bound.{Bound}
use Rattle.rw_scope_rules.specs.Nodes.{Node, expression_node, pattern_node, clause_node, group_node, binding_node, statement_node, clause_nodes, clauses_of}
use Rattle.rw_tree.specs.Patterns.{Pattern, wildcard, variable_pattern, constructor_pattern, tuple_pattern, Patterns, no_patterns, more_patterns}
use Rattle.rw_tree.specs.Trees.{Expression, variable, constructor, application, tuple, chain, lambda, let_in, if_then_else, case_of, do_block, Expressions, no_expressions, more_expressions}
use Rattle.rw_tree.specs.Trees.{Alternative, alternative, Alternatives, no_alternatives, more_alternatives, RightSide, plain_side, guarded_side, GuardedBody, guarded_body, GuardedBodies, no_bodies, more_bodies}
use Rattle.rw_tree.specs.Trees.{LocalBinding, local_signature, local_function, local_pattern, LocalBindings, no_bindings, more_bindings, Statement, bind_statement, let_statement, run_statement, Statements, no_statements, more_statements}
use Rattle.rw_tree.specs.Declarations.{Declaration, import_declaration, data_declaration, fixity_declaration, signature_declaration, function_declaration}
use Rattle.rw_types_solving.specs.Types.{Ty}
use Rattle.rw_types_rules.specs.Words.{function, functions}
use Rattle.rw_types_rules.specs.Schemes.{World}
use Rattle.rw_types_rules.specs.Relabelled.{relabelled_pattern, relabelled_parts, relabelled_row, relabelled_expression, relabelled_expressions, relabelled_alternative, relabelled_alternatives, relabelled_side, relabelled_body, relabelled_bodies, relabelled_binding, relabelled_group, relabelled_statement, relabelled_statements}
use Rattle.rw_types_rules.specs.TypedTrees.{TypedNode, erased, row_types, expression_type, row_locals, group_locals, statement_locals, are_none}
use Rattle.rw_types_rules.specs.WellTyped.{RowAgrees, ExpressionAgrees, ExpressionsAgree, ClauseAgrees, ClausesAgree, SideAgrees, BodyAgrees, BodiesAgree, BindingAgrees, BoundPatternAgrees, GroupAgrees, StatementAgrees, StatementsAgree, AllClausesAgree, DeclarationAgrees}
use Rattle.rw_cover_matrix.specs.Values.{Shape, Shapes, no_shapes, more_shapes}
use Rattle.rw_cover_matrix.specs.Matching.{PlainPattern, IsRowOf, AreRowsOf}
use Rattle.rw_cover.specs.declared.known.Known.{Known}
use Rattle.rw_cover.specs.Rows.{matrix_row, is_total, counted_rows}
use Rattle.rw_cover.specs.Coverage.{Group, clauses_group, node_group, declaration_groups}
use Rattle.rw_cover_laws.specs.Shapes.{fields_in, HaveShapes, IsWorld}
use Rattle.rw_cover_laws.specs.Columns.{arguments_of, clauses_columns, node_columns, declaration_columns, StandAt}
use Rattle.std.specs.List.{AllByRecursion}
use Rattle.rw_cover_laws.proofs.Relabelled.{relabelled_node, nodes_relabelled}
use Rattle.rw_cover_laws.proofs.Agreeing.{RowsAgree, nodes_agree}
use Rattle.rw_cover_laws.proofs.Stands.{pattern_stands, row_stands}

pub stand_behind : (world : World) (gs hs : List Group) (ts us : List (List Ty)) → StandAt world gs ts → StandAt world hs us → StandAt world (gs ++ hs) (ts ++ us)
stand_behind world [] hs [] us h k = k
stand_behind world [] hs (t ∷ ts) us h k = absurd h
stand_behind world (g ∷ gs) hs [] us h k = absurd h
stand_behind world (g ∷ gs) hs (t ∷ ts) us h k = (h.0, stand_behind world gs hs ts us h.1 k)

module _ (world : World) (counts : List ℕ) (is : IsWorld world counts) (known : Known) where
  -- the patterns of a clause are those of the first arguments of its type
  first_columns : (variables unknowns : ℕ → Shape) (pats : List (Pattern TypedNode)) (to : Ty) → RowAgrees world pats → (columns : Shapes) → HaveShapes (fields_in world) variables unknowns columns (arguments_of (functions (row_types pats) to))
      → IsRowOf (matrix_row counts (relabelled_row (λ (a : TypedNode). a.node) pats)) columns
  first_columns variables unknowns [] to h columns have = tt
  first_columns variables unknowns (p ∷ ps) to h no_shapes have = absurd have
  first_columns variables unknowns (p ∷ ps) to h (more_shapes shape columns) have =
      (pattern_stands world counts is variables unknowns p h.0 shape have.0, first_columns variables unknowns ps to h.1 columns have.1)

  -- a right side that is always taken has a body, which tells the clause's type
  side_type : (locals from : List Ty) (type : Ty) (side : RightSide TypedNode) → SideAgrees world locals from type side → is_total known (relabelled_side (λ (a : TypedNode). a.node) side) ≡ true → (to : Ty) × (type ≡ functions from to)
  side_type locals from type (plain_side body) h total = (expression_type body, h.0)
  side_type locals from type (guarded_side no_bodies) h total = absurd (cc)
  side_type locals from type (guarded_side (more_bodies (guarded_body test body) bs)) h total = (expression_type body, h.0.0.1)

  -- the row of a clause, if it counts
  clause_row : (variables unknowns : ℕ → Shape) (locals : List Ty) (type : Ty) (pats : List (Pattern TypedNode)) (side : RightSide TypedNode) (rest : List (List PlainPattern)) (columns : Shapes)
      → RowAgrees world pats → SideAgrees world locals (row_types pats) type side → HaveShapes (fields_in world) variables unknowns columns (arguments_of type) → AreRowsOf rest columns
      → AreRowsOf ((if is_total known (relabelled_side (λ (a : TypedNode). a.node) side) then matrix_row counts (relabelled_row (λ (a : TypedNode). a.node) pats) ∷ [] else []) ++ rest) columns
  clause_row variables unknowns locals type pats side rest columns row agrees have others =
      elim (is_total known (relabelled_side (λ (a : TypedNode). a.node) side)) as (λ b. is_total known (relabelled_side (λ (a : TypedNode). a.node) side) ≡ b → AreRowsOf ((if b then matrix_row counts (relabelled_row (λ (a : TypedNode). a.node) pats) ∷ [] else []) ++ rest) columns) [
        | true ↦ (λ e.
            let t = side_type locals (row_types pats) type side agrees e in
            (first_columns variables unknowns pats t.0 row columns (subst (λ (ty : Ty). HaveShapes (fields_in world) variables unknowns columns (arguments_of ty)) t.1 have), others))
        | false ↦ (λ e. others)
      ] refl

  clauses_rows : (variables unknowns : ℕ → Shape) (locals : List Ty) (type : Ty) (cs : Alternatives TypedNode) → ClausesAgree world locals type cs → (columns : Shapes) → HaveShapes (fields_in world) variables unknowns columns (arguments_of type)
      → AreRowsOf (counted_rows counts known (clauses_of (relabelled_alternatives (λ (a : TypedNode). a.node) cs))) columns
  clauses_rows variables unknowns locals type no_alternatives h columns have = tt
  clauses_rows variables unknowns locals type (more_alternatives (alternative a pats side wheres) cs) h columns have =
      clause_row variables unknowns ((locals ++ row_locals pats) ++ group_locals wheres) a.type pats side (counted_rows counts known (clauses_of (relabelled_alternatives (λ (a : TypedNode). a.node) cs))) columns
      h.1.0 h.1.1 (subst (λ (ty : Ty). HaveShapes (fields_in world) variables unknowns columns (arguments_of ty)) (sym h.0) have)
      (clauses_rows variables unknowns locals type cs h.2 columns have)

  top_rows : (variables unknowns : ℕ → Shape) (type : Ty) (cs : List (Alternative TypedNode)) → AllClausesAgree world type cs → (columns : Shapes) → HaveShapes (fields_in world) variables unknowns columns (arguments_of type)
      → AreRowsOf (counted_rows counts known (map (relabelled_alternative (λ (a : TypedNode). a.node)) cs)) columns
  top_rows variables unknowns type [] h columns have = tt
  top_rows variables unknowns type (alternative a pats side wheres ∷ cs) h columns have =
      clause_row variables unknowns (([] ++ row_locals pats) ++ group_locals wheres) a.type pats side (counted_rows counts known (map (relabelled_alternative (λ (a : TypedNode). a.node)) cs)) columns
      h.1.0 h.1.1 (subst (λ (ty : Ty). HaveShapes (fields_in world) variables unknowns columns (arguments_of ty)) (sym h.0) have)
      (top_rows variables unknowns type cs h.2 columns have)

  -- the group of a function's clauses, of which there is at least one
  local_rows : (locals : List Ty) (type : Ty) (cs : Alternatives TypedNode) → ClausesAgree world locals type cs
      → StandAt world (clauses_group counts known (clauses_of (relabelled_alternatives (λ (a : TypedNode). a.node) cs))) (clauses_columns (clauses_of cs))
  local_rows locals type no_alternatives h = tt
  local_rows locals type (more_alternatives (alternative a pats side wheres) cs) h = (
    (λ variables unknowns columns have. clauses_rows variables unknowns locals type (more_alternatives (alternative a pats side wheres) cs) h columns
        (subst (λ (ty : Ty). HaveShapes (fields_in world) variables unknowns columns (arguments_of ty)) h.0 have)),
    tt,
  )

  -- the one row of a pattern binding, if it counts
  binding_row : (variables unknowns : ℕ → Shape) (type : Ty) (pats : List (Pattern TypedNode)) (side : RightSide TypedNode) (columns : Shapes) → row_types pats ≡ type ∷ [] → RowAgrees world pats
      → HaveShapes (fields_in world) variables unknowns columns (type ∷ [])
      → AreRowsOf (if is_total known (relabelled_side (λ (a : TypedNode). a.node) side) then matrix_row counts (relabelled_row (λ (a : TypedNode). a.node) pats) ∷ [] else []) columns
  binding_row variables unknowns type pats side columns e row have =
      elim (is_total known (relabelled_side (λ (a : TypedNode). a.node) side)) as (λ b. AreRowsOf (if b then matrix_row counts (relabelled_row (λ (a : TypedNode). a.node) pats) ∷ [] else []) columns) [
        | true ↦ (row_stands world counts is variables unknowns pats row columns (subst (λ (ts : List Ty). HaveShapes (fields_in world) variables unknowns columns ts) (sym e) have), tt)
        | false ↦ tt
      ]

  -- the rows at a node
  node_stands : (n : Node TypedNode) → RowsAgree world n → StandAt world (node_group counts known (relabelled_node (λ (a : TypedNode). a.node) n)) (node_columns n)
  node_stands (expression_node (variable a x)) h = tt
  node_stands (expression_node (constructor a c)) h = tt
  node_stands (expression_node (application a head parts)) h = tt
  node_stands (expression_node (tuple a parts)) h = tt
  node_stands (expression_node (chain a operands operators)) h = tt
  node_stands (expression_node (lambda a pats body)) h = ((λ variables unknowns columns have. (row_stands world counts is variables unknowns pats h columns have, tt)), tt)
  node_stands (expression_node (let_in a group body)) h = tt
  node_stands (expression_node (if_then_else a test first second)) h = tt
  node_stands (expression_node (case_of a scrutinee rows)) h =
      ((λ variables unknowns columns have. clauses_rows variables unknowns h.0 (function (expression_type scrutinee) a.type) rows h.1 columns have), tt)
  node_stands (expression_node (do_block a steps)) h = tt
  node_stands (pattern_node p) h = tt
  node_stands (clause_node c) h = tt
  node_stands (group_node group) h = tt
  node_stands (binding_node (local_signature a x type)) h = tt
  node_stands (binding_node (local_function a x clauses)) h = local_rows h.0 a.type clauses h.1
  node_stands (binding_node (local_pattern a (alternative b pats side wheres))) h =
      ((λ variables unknowns columns have. binding_row variables unknowns a.type pats side columns h.1.0.1 h.1.0.2 have), tt)
  node_stands (statement_node (bind_statement a p e)) h = ((λ variables unknowns columns have. (row_stands world counts is variables unknowns (p ∷ []) (h, tt) columns have, tt)), tt)
  node_stands (statement_node (let_statement a group)) h = tt
  node_stands (statement_node (run_statement a e)) h = tt

  nodes_stand : (ns : List (Node TypedNode)) → AllByRecursion (RowsAgree world) ns
      → StandAt world (flat_map (node_group counts known) (map (relabelled_node (λ (a : TypedNode). a.node)) ns)) (flat_map node_columns ns)
  nodes_stand [] h = tt
  nodes_stand (n ∷ ns) h =
      stand_behind world (node_group counts known (relabelled_node (λ (a : TypedNode). a.node) n)) (flat_map (node_group counts known) (map (relabelled_node (λ (a : TypedNode). a.node)) ns)) (node_columns n) (flat_map node_columns ns)
      (node_stands n h.0) (nodes_stand ns h.1)

  -- the clauses of a declaration
  top_group : (type : Ty) (cs : List (Alternative TypedNode)) → AllClausesAgree world type cs → StandAt world (clauses_group counts known (map (relabelled_alternative (λ (a : TypedNode). a.node)) cs)) (clauses_columns cs)
  top_group type [] h = tt
  top_group type (alternative a pats side wheres ∷ cs) h = (
    (λ variables unknowns columns have. top_rows variables unknowns type (alternative a pats side wheres ∷ cs) h columns
        (subst (λ (ty : Ty). HaveShapes (fields_in world) variables unknowns columns (arguments_of ty)) h.0 have)),
    tt,
  )

  pub declaration_stands : (d : Declaration TypedNode) → DeclarationAgrees world d → StandAt world (declaration_groups counts known (erased d)) (declaration_columns d)
  declaration_stands (import_declaration a m) h = tt
  declaration_stands (data_declaration a x params constructors) h = tt
  declaration_stands (fixity_declaration a side strength names) h = tt
  declaration_stands (signature_declaration a names type) h = tt
  declaration_stands (function_declaration a x clauses) h =
      stand_behind world (clauses_group counts known (map (relabelled_alternative (λ (a : TypedNode). a.node)) clauses)) (flat_map (node_group counts known) (flat_map clause_nodes (map (relabelled_alternative (λ (a : TypedNode). a.node)) clauses)))
      (clauses_columns clauses) (flat_map node_columns (flat_map clause_nodes clauses)) (top_group a.type clauses h.1)
      (subst (λ (ns : List (Node Bound)). StandAt world (flat_map (node_group counts known) ns) (flat_map node_columns (flat_map clause_nodes clauses))) (sym (nodes_relabelled (λ (a : TypedNode). a.node) clauses))
      (nodes_stand (flat_map clause_nodes clauses) (nodes_agree world a.type clauses h.1)))
