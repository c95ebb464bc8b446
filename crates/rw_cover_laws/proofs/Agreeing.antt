-- What it says of the rows at each node that the types of a declaration agree.
use Rattle.std.proofs.Common.{List, [], ◌∷◌, ◌++◌, flat_map, Bool, true, false}
use Rattle.std.specs.List.{AllByRecursion}
use Rattle.rw_scope_rules.specs.Nodes.{Node, expression_node, pattern_node, clause_node, group_node, binding_node, statement_node, pattern_nodes, parts_nodes, row_nodes, expression_nodes, expressions_nodes, clause_nodes, clauses_nodes, side_nodes, body_nodes, bodies_nodes, binding_nodes, group_nodes, statement_nodes, statements_nodes}
use Rattle.rw_tree.specs.Patterns.{Pattern, wildcard, variable_pattern, constructor_pattern, tuple_pattern, Patterns, no_patterns, more_patterns}
use Rattle.rw_tree.specs.Trees.{Expression, variable, constructor, application, tuple, chain, lambda, let_in, if_then_else, case_of, do_block, Expressions, no_expressions, more_expressions}
use Rattle.rw_tree.specs.Trees.{Alternative, alternative, Alternatives, no_alternatives, more_alternatives, RightSide, plain_side, guarded_side, GuardedBody, guarded_body, GuardedBodies, no_bodies, more_bodies}
use Rattle.rw_tree.specs.Trees.{LocalBinding, local_signature, local_function, local_pattern, LocalBindings, no_bindings, more_bindings, Statement, bind_statement, let_statement, run_statement, Statements, no_statements, more_statements}
use Rattle.rw_types_solving.specs.Types.{Ty}
use Rattle.rw_types_rules.specs.Words.{function}
use Rattle.rw_types_rules.specs.Schemes.{World}
use Rattle.rw_types_rules.specs.TypedTrees.{TypedNode, row_types, expression_type, row_locals, group_locals, statement_locals, are_none}
use Rattle.rw_types_rules.specs.WellTyped.{PatternAgrees, RowAgrees, ExpressionAgrees, ExpressionsAgree, ClauseAgrees, ClausesAgree, SideAgrees, BodyAgrees, BodiesAgree, BindingAgrees, BoundPatternAgrees, GroupAgrees, StatementAgrees, StatementsAgree, AllClausesAgree}

pub all_behind : {X : Type 0} (P : X → Type 0) (xs ys : List X) → AllByRecursion P xs → AllByRecursion P ys → AllByRecursion P (xs ++ ys)
all_behind P [] ys h k = k
all_behind P (x ∷ xs) ys h k = (h.0, all_behind P xs ys h.1 k)

module _ (world : World) where
  -- a node that has rows: its clauses, its patterns or its pattern agree, among some local types
  abbrev pub RowsAgree : Node TypedNode → Type 0
  RowsAgree (expression_node (case_of a scrutinee rows)) = (locals : List Ty) × ClausesAgree world locals (function (expression_type scrutinee) a.type) rows
  RowsAgree (expression_node (lambda a pats body)) = RowAgrees world pats
  RowsAgree (binding_node (local_function a x clauses)) = (locals : List Ty) × ClausesAgree world locals a.type clauses
  RowsAgree (binding_node (local_pattern a bound)) = (locals : List Ty) × BoundPatternAgrees world locals a.type bound
  RowsAgree (statement_node (bind_statement a p e)) = PatternAgrees world p
  RowsAgree _ = Unit {0}

  abbrev Agree : List (Node TypedNode) → Type 0
  Agree ns = AllByRecursion RowsAgree ns

  both : (ns ms : List (Node TypedNode)) → Agree ns → Agree ms → Agree (ns ++ ms)
  both ns ms h k = all_behind RowsAgree ns ms h k

  -- patterns have no rows
  mutual
    in_pattern : (p : Pattern TypedNode) → Agree (pattern_nodes p)
    in_pattern (wildcard a) = (tt, tt)
    in_pattern (variable_pattern a x) = (tt, tt)
    in_pattern (constructor_pattern a c parts) = (tt, in_parts parts)
    in_pattern (tuple_pattern a parts) = (tt, in_parts parts)

    in_parts : (ps : Patterns TypedNode) → Agree (parts_nodes ps)
    in_parts no_patterns = tt
    in_parts (more_patterns p ps) = both (pattern_nodes p) (parts_nodes ps) (in_pattern p) (in_parts ps)

  in_row : (pats : List (Pattern TypedNode)) → Agree (row_nodes pats)
  in_row [] = tt
  in_row (p ∷ ps) = both (pattern_nodes p) (row_nodes ps) (in_pattern p) (in_row ps)

  -- the patterns of a clause, its right side, and what is bound after `where`
  in_three : (pats : List (Pattern TypedNode)) (side : RightSide TypedNode) (wheres : LocalBindings TypedNode) → Agree (side_nodes side) → Agree (group_nodes wheres)
      → Agree (row_nodes pats ++ (side_nodes side ++ (group_node wheres ∷ group_nodes wheres)))
  in_three pats side wheres h k = both (row_nodes pats) (side_nodes side ++ (group_node wheres ∷ group_nodes wheres)) (in_row pats) (both (side_nodes side) (group_node wheres ∷ group_nodes wheres) h (tt, k))

  mutual
    in_expression : (locals : List Ty) (e : Expression TypedNode) → ExpressionAgrees world locals e → Agree (expression_nodes e)
    in_expression locals (variable a x) h = (tt, tt)
    in_expression locals (constructor a c) h = (tt, tt)
    in_expression locals (application a head parts) h = (tt, both (expression_nodes head) (expressions_nodes parts) (in_expression locals head h.1) (in_expressions locals parts h.2))
    in_expression locals (tuple a parts) h = (tt, in_expressions locals parts h.1)
    in_expression locals (chain a operands operators) h = absurd h
    in_expression locals (lambda a pats body) h = (h.1, both (row_nodes pats) (expression_nodes body) (in_row pats) (in_expression (locals ++ row_locals pats) body h.2))
    in_expression locals (let_in a group body) h = (
      tt,
      (tt, both (group_nodes group) (expression_nodes body) (in_group (locals ++ group_locals group) group h.1) (in_expression (locals ++ group_locals group) body h.2)),
    )
    in_expression locals (if_then_else a test first second) h = (
      tt,
      both (expression_nodes test) (expression_nodes first ++ expression_nodes second) (in_expression locals test h.1)
          (both (expression_nodes first) (expression_nodes second) (in_expression locals first h.2) (in_expression locals second h.3)),
    )
    in_expression locals (case_of a scrutinee rows) h =
        ((locals, h.1), both (expression_nodes scrutinee) (clauses_nodes rows) (in_expression locals scrutinee h.0) (in_clauses locals (function (expression_type scrutinee) a.type) rows h.1))
    in_expression locals (do_block a steps) h = (tt, in_statements locals a.type steps h)

    in_expressions : (locals : List Ty) (es : Expressions TypedNode) → ExpressionsAgree world locals es → Agree (expressions_nodes es)
    in_expressions locals no_expressions h = tt
    in_expressions locals (more_expressions e es) h = both (expression_nodes e) (expressions_nodes es) (in_expression locals e h.0) (in_expressions locals es h.1)

    in_clause : (locals : List Ty) (c : Alternative TypedNode) → ClauseAgrees world locals c → Agree (clause_nodes c)
    in_clause locals (alternative a pats side wheres) h = (
      tt,
      in_three pats side wheres (in_side ((locals ++ row_locals pats) ++ group_locals wheres) (row_types pats) a.type side h.1)
          (in_group ((locals ++ row_locals pats) ++ group_locals wheres) wheres h.2),
    )

    in_clauses : (locals : List Ty) (type : Ty) (cs : Alternatives TypedNode) → ClausesAgree world locals type cs → Agree (clauses_nodes cs)
    in_clauses locals type no_alternatives h = tt
    in_clauses locals type (more_alternatives c cs) h = both (clause_nodes c) (clauses_nodes cs) (in_clause locals c h.1) (in_clauses locals type cs h.2)

    in_side : (locals from : List Ty) (type : Ty) (side : RightSide TypedNode) → SideAgrees world locals from type side → Agree (side_nodes side)
    in_side locals from type (plain_side body) h = in_expression locals body h.1
    in_side locals from type (guarded_side bodies) h = in_bodies locals from type bodies h

    in_body : (locals from : List Ty) (type : Ty) (b : GuardedBody TypedNode) → BodyAgrees world locals from type b → Agree (body_nodes b)
    in_body locals from type (guarded_body test body) h = both (expression_nodes test) (expression_nodes body) (in_expression locals test h.1) (in_expression locals body h.2)

    in_bodies : (locals from : List Ty) (type : Ty) (bs : GuardedBodies TypedNode) → BodiesAgree world locals from type bs → Agree (bodies_nodes bs)
    in_bodies locals from type no_bodies h = tt
    in_bodies locals from type (more_bodies b bs) h = both (body_nodes b) (bodies_nodes bs) (in_body locals from type b h.0) (in_bodies locals from type bs h.1)

    in_binding : (locals : List Ty) (b : LocalBinding TypedNode) → BindingAgrees world locals b → Agree (binding_nodes b)
    in_binding locals (local_signature a x type) h = (tt, tt)
    in_binding locals (local_function a x clauses) h = ((locals, h), in_clauses locals a.type clauses h)
    in_binding locals (local_pattern a bound) h = ((locals, h), in_bound locals a.type bound h)

    in_bound : (locals : List Ty) (type : Ty) (bound : Alternative TypedNode) → BoundPatternAgrees world locals type bound → Agree (clause_nodes bound)
    in_bound locals type (alternative b pats side wheres) h =
        (tt, in_three pats side wheres (in_side (locals ++ group_locals wheres) [] type side h.1) (in_group (locals ++ group_locals wheres) wheres h.2))

    in_group : (locals : List Ty) (bs : LocalBindings TypedNode) → GroupAgrees world locals bs → Agree (group_nodes bs)
    in_group locals no_bindings h = tt
    in_group locals (more_bindings b bs) h = both (binding_nodes b) (group_nodes bs) (in_binding locals b h.0) (in_group locals bs h.1)

    in_statement : (locals : List Ty) (block : Ty) (last : Bool) (s : Statement TypedNode) → StatementAgrees world locals block last s → Agree (statement_nodes s)
    in_statement locals block true (bind_statement a p e) h = absurd h
    in_statement locals block true (let_statement a group) h = absurd h
    in_statement locals block true (run_statement a e) h = (tt, in_expression locals e h.1)
    in_statement locals block false (run_statement a e) h = (tt, in_expression locals e h.1)
    in_statement locals block false (let_statement a group) h = (tt, (tt, in_group (locals ++ group_locals group) group h.1))
    in_statement locals block false (bind_statement a p e) h = (h.1, both (pattern_nodes p) (expression_nodes e) (in_pattern p) (in_expression locals e h.2))

    in_statements : (locals : List Ty) (block : Ty) (ss : Statements TypedNode) → StatementsAgree world locals block ss → Agree (statements_nodes ss)
    in_statements locals block no_statements h = tt
    in_statements locals block (more_statements s ss) h = both (statement_nodes s) (statements_nodes ss) (in_statement locals block (are_none ss) s h.0) (in_statements (locals ++ statement_locals s) block ss h.1)

  -- of a function: the nodes of its clauses
  pub nodes_agree : (type : Ty) (cs : List (Alternative TypedNode)) → AllClausesAgree world type cs → AllByRecursion RowsAgree (flat_map clause_nodes cs)
  nodes_agree type [] h = tt
  nodes_agree type (c ∷ cs) h = both (clause_nodes c) (flat_map clause_nodes cs) (in_clause [] c h.1) (nodes_agree type cs h.2)
