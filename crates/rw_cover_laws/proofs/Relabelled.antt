-- The nodes of a tree with other annotations are its nodes with other annotations.
use Rattle.std.proofs.Common.{◌≡◌, refl, sym, ap, ◌∙◌, List, [], ◌∷◌, ◌++◌, flat_map, map}
use Rattle.std.proofs.lemmas.List.{map-append}
use Rattle.rw_scope_rules.specs.Nodes.{Node, expression_node, pattern_node, clause_node, group_node, binding_node, statement_node, pattern_nodes, parts_nodes, row_nodes, expression_nodes, expressions_nodes, clause_nodes, clauses_nodes, side_nodes, body_nodes, bodies_nodes, binding_nodes, group_nodes, statement_nodes, statements_nodes}
use Rattle.rw_tree.specs.Patterns.{Pattern, wildcard, variable_pattern, constructor_pattern, tuple_pattern, Patterns, no_patterns, more_patterns}
use Rattle.rw_tree.specs.Trees.{Expression, variable, constructor, application, tuple, chain, lambda, let_in, if_then_else, case_of, do_block, Expressions, no_expressions, more_expressions}
use Rattle.rw_tree.specs.Trees.{Alternative, alternative, Alternatives, no_alternatives, more_alternatives, RightSide, plain_side, guarded_side, GuardedBody, guarded_body, GuardedBodies, no_bodies, more_bodies}
use Rattle.rw_tree.specs.Trees.{LocalBinding, local_signature, local_function, local_pattern, LocalBindings, no_bindings, more_bindings, Statement, bind_statement, let_statement, run_statement, Statements, no_statements, more_statements}
use Rattle.rw_types_rules.specs.Relabelled.{relabelled_pattern, relabelled_parts, relabelled_row, relabelled_expression, relabelled_expressions, relabelled_alternative, relabelled_alternatives, relabelled_side, relabelled_body, relabelled_bodies, relabelled_binding, relabelled_group, relabelled_statement, relabelled_statements}

module _ {X Y : Type 0} (f : X → Y) where
  abbrev pub relabelled_node : Node X → Node Y
  relabelled_node (expression_node e) = expression_node (relabelled_expression f e)
  relabelled_node (pattern_node p) = pattern_node (relabelled_pattern f p)
  relabelled_node (clause_node c) = clause_node (relabelled_alternative f c)
  relabelled_node (group_node bs) = group_node (relabelled_group f bs)
  relabelled_node (binding_node b) = binding_node (relabelled_binding f b)
  relabelled_node (statement_node s) = statement_node (relabelled_statement f s)

  abbrev Same : List (Node Y) → List (Node X) → Type 0
  Same ns ms = ns ≡ map relabelled_node ms

  both : (ns os : List (Node Y)) (ms ps : List (Node X)) → Same ns ms → Same os ps → Same (ns ++ os) (ms ++ ps)
  both ns os ms ps h k = ap (λ (zs : List (Node Y)). zs ++ os) h ∙ ap (λ (zs : List (Node Y)). map relabelled_node ms ++ zs) k ∙ sym (map-append relabelled_node ms ps)

  next : (n : Node X) (ns : List (Node Y)) (ms : List (Node X)) → Same ns ms → Same (relabelled_node n ∷ ns) (n ∷ ms)
  next n ns ms h = ap (λ (zs : List (Node Y)). relabelled_node n ∷ zs) h

  mutual
    in_pattern : (p : Pattern X) → Same (pattern_nodes (relabelled_pattern f p)) (pattern_nodes p)
    in_pattern (wildcard a) = refl
    in_pattern (variable_pattern a x) = refl
    in_pattern (constructor_pattern a c parts) = next (pattern_node (constructor_pattern a c parts)) _ (parts_nodes parts) (in_parts parts)
    in_pattern (tuple_pattern a parts) = next (pattern_node (tuple_pattern a parts)) _ (parts_nodes parts) (in_parts parts)

    in_parts : (ps : Patterns X) → Same (parts_nodes (relabelled_parts f ps)) (parts_nodes ps)
    in_parts no_patterns = refl
    in_parts (more_patterns p ps) = both _ _ (pattern_nodes p) (parts_nodes ps) (in_pattern p) (in_parts ps)

  in_row : (pats : List (Pattern X)) → Same (row_nodes (relabelled_row f pats)) (row_nodes pats)
  in_row [] = refl
  in_row (p ∷ ps) = both _ _ (pattern_nodes p) (row_nodes ps) (in_pattern p) (in_row ps)

  mutual
    in_expression : (e : Expression X) → Same (expression_nodes (relabelled_expression f e)) (expression_nodes e)
    in_expression (variable a x) = refl
    in_expression (constructor a c) = refl
    in_expression (application a head parts) =
        next (expression_node (application a head parts)) _ (expression_nodes head ++ expressions_nodes parts) (both _ _ (expression_nodes head) (expressions_nodes parts) (in_expression head) (in_expressions parts))
    in_expression (tuple a parts) = next (expression_node (tuple a parts)) _ (expressions_nodes parts) (in_expressions parts)
    in_expression (chain a operands operators) =
        next (expression_node (chain a operands operators)) _ (expressions_nodes operands ++ expressions_nodes operators) (both _ _ (expressions_nodes operands) (expressions_nodes operators) (in_expressions operands) (in_expressions operators))
    in_expression (lambda a pats body) = next (expression_node (lambda a pats body)) _ (row_nodes pats ++ expression_nodes body) (both _ _ (row_nodes pats) (expression_nodes body) (in_row pats) (in_expression body))
    in_expression (let_in a group body) =
        next (expression_node (let_in a group body)) _ (group_node group ∷ group_nodes group ++ expression_nodes body)
        (next (group_node group) _ (group_nodes group ++ expression_nodes body) (both _ _ (group_nodes group) (expression_nodes body) (in_group group) (in_expression body)))
    in_expression (if_then_else a test first second) =
        next (expression_node (if_then_else a test first second)) _ (expression_nodes test ++ (expression_nodes first ++ expression_nodes second))
        (both _ _ (expression_nodes test) (expression_nodes first ++ expression_nodes second) (in_expression test)
        (both _ _ (expression_nodes first) (expression_nodes second) (in_expression first) (in_expression second)))
    in_expression (case_of a scrutinee rows) =
        next (expression_node (case_of a scrutinee rows)) _ (expression_nodes scrutinee ++ clauses_nodes rows) (both _ _ (expression_nodes scrutinee) (clauses_nodes rows) (in_expression scrutinee) (in_clauses rows))
    in_expression (do_block a steps) = next (expression_node (do_block a steps)) _ (statements_nodes steps) (in_statements steps)

    in_expressions : (es : Expressions X) → Same (expressions_nodes (relabelled_expressions f es)) (expressions_nodes es)
    in_expressions no_expressions = refl
    in_expressions (more_expressions e es) = both _ _ (expression_nodes e) (expressions_nodes es) (in_expression e) (in_expressions es)

    in_clause : (c : Alternative X) → Same (clause_nodes (relabelled_alternative f c)) (clause_nodes c)
    in_clause (alternative a pats side wheres) =
        next (clause_node (alternative a pats side wheres)) _ (row_nodes pats ++ (side_nodes side ++ (group_node wheres ∷ group_nodes wheres)))
        (both _ _ (row_nodes pats) (side_nodes side ++ (group_node wheres ∷ group_nodes wheres)) (in_row pats)
        (both _ _ (side_nodes side) (group_node wheres ∷ group_nodes wheres) (in_side side) (next (group_node wheres) _ (group_nodes wheres) (in_group wheres))))

    in_clauses : (cs : Alternatives X) → Same (clauses_nodes (relabelled_alternatives f cs)) (clauses_nodes cs)
    in_clauses no_alternatives = refl
    in_clauses (more_alternatives c cs) = both _ _ (clause_nodes c) (clauses_nodes cs) (in_clause c) (in_clauses cs)

    in_side : (side : RightSide X) → Same (side_nodes (relabelled_side f side)) (side_nodes side)
    in_side (plain_side body) = in_expression body
    in_side (guarded_side bodies) = in_bodies bodies

    in_body : (b : GuardedBody X) → Same (body_nodes (relabelled_body f b)) (body_nodes b)
    in_body (guarded_body test body) = both _ _ (expression_nodes test) (expression_nodes body) (in_expression test) (in_expression body)

    in_bodies : (bs : GuardedBodies X) → Same (bodies_nodes (relabelled_bodies f bs)) (bodies_nodes bs)
    in_bodies no_bodies = refl
    in_bodies (more_bodies b bs) = both _ _ (body_nodes b) (bodies_nodes bs) (in_body b) (in_bodies bs)

    in_binding : (b : LocalBinding X) → Same (binding_nodes (relabelled_binding f b)) (binding_nodes b)
    in_binding (local_signature a x type) = refl
    in_binding (local_function a x clauses) = next (binding_node (local_function a x clauses)) _ (clauses_nodes clauses) (in_clauses clauses)
    in_binding (local_pattern a bound) = next (binding_node (local_pattern a bound)) _ (clause_nodes bound) (in_clause bound)

    in_group : (bs : LocalBindings X) → Same (group_nodes (relabelled_group f bs)) (group_nodes bs)
    in_group no_bindings = refl
    in_group (more_bindings b bs) = both _ _ (binding_nodes b) (group_nodes bs) (in_binding b) (in_group bs)

    in_statement : (s : Statement X) → Same (statement_nodes (relabelled_statement f s)) (statement_nodes s)
    in_statement (bind_statement a p e) = next (statement_node (bind_statement a p e)) _ (pattern_nodes p ++ expression_nodes e) (both _ _ (pattern_nodes p) (expression_nodes e) (in_pattern p) (in_expression e))
    in_statement (let_statement a group) = next (statement_node (let_statement a group)) _ (group_node group ∷ group_nodes group) (next (group_node group) _ (group_nodes group) (in_group group))
    in_statement (run_statement a e) = next (statement_node (run_statement a e)) _ (expression_nodes e) (in_expression e)

    in_statements : (ss : Statements X) → Same (statements_nodes (relabelled_statements f ss)) (statements_nodes ss)
    in_statements no_statements = refl
    in_statements (more_statements s ss) = both _ _ (statement_nodes s) (statements_nodes ss) (in_statement s) (in_statements ss)

  -- of a function: the nodes of its clauses
  pub nodes_relabelled : (cs : List (Alternative X)) → flat_map clause_nodes (map (relabelled_alternative f) cs) ≡ map relabelled_node (flat_map clause_nodes cs)
  nodes_relabelled [] = refl
  nodes_relabelled (c ∷ cs) = both _ _ (clause_nodes c) (flat_map clause_nodes cs) (in_clause c) (nodes_relabelled cs)
