-- The types of a relabelled tree in a row.
use Rattle.std.proofs.Common.{◌≡◌, List, [], ◌∷◌, ◌++◌, map, refl, sym, ◌∙◌, ap}
use Rattle.std.proofs.lemmas.List.{map-append}
use Rattle.rw_tree.specs.Patterns.{Pattern, wildcard, variable_pattern, constructor_pattern, tuple_pattern, Patterns, no_patterns, more_patterns}
use Rattle.rw_tree.specs.Trees.{Expression, variable, constructor, application, tuple, chain, lambda, let_in, if_then_else, case_of, do_block, Expressions, no_expressions, more_expressions}
use Rattle.rw_tree.specs.Trees.{Alternative, alternative, Alternatives, no_alternatives, more_alternatives, RightSide, plain_side, guarded_side, GuardedBody, guarded_body, GuardedBodies, no_bodies, more_bodies}
use Rattle.rw_tree.specs.Trees.{LocalBinding, local_signature, local_function, local_pattern, LocalBindings, no_bindings, more_bindings, Statement, bind_statement, let_statement, run_statement, Statements, no_statements, more_statements}
use Rattle.rw_tree.specs.Declarations.{Declaration, import_declaration, data_declaration, fixity_declaration, signature_declaration, function_declaration}
use Rattle.rw_types_solving.specs.Types.{Ty}
use Rattle.rw_types_rules.specs.Relabelled.{relabelled_pattern, relabelled_parts, relabelled_row, relabelled_expression, relabelled_expressions, relabelled_alternative, relabelled_alternatives, relabelled_side, relabelled_body, relabelled_bodies, relabelled_binding, relabelled_group, relabelled_statement, relabelled_statements, relabelled_declaration}
use Rattle.rw_types_rules.specs.TypedTrees.{TypedNode}
use Rattle.rw_types_numbering.specs.Rows.{pattern_carried, parts_carried, row_carried, expression_carried, expressions_carried, clause_carried, clauses_carried, side_carried, body_carried, bodies_carried, binding_carried, group_carried, statement_carried, statements_carried, all_clauses_carried, declaration_carried}
use Rattle.rw_types_numbering.proofs.Relabelling.{same2}

module _ (f : Ty → Ty) where
  abbrev kept : TypedNode → TypedNode
  kept a = record { node = a.node; type = f a.type; arguments = map f a.arguments }

  -- one part after the other, and parts under a node
  both : {us vs : List Ty} (xs ys : List Ty) → us ≡ map f xs → vs ≡ map f ys → us ++ vs ≡ map f (xs ++ ys)
  both xs ys p q = same2 ◌++◌ p q ∙ sym (map-append f xs ys)

  under : {us : List Ty} (a : TypedNode) (xs : List Ty) → us ≡ map f xs → f a.type ∷ map f a.arguments ++ us ≡ map f (a.type ∷ a.arguments ++ xs)
  under a xs p = ap (λ z. f a.type ∷ z) (both a.arguments xs refl p)

  mutual
    pattern_kept : (p : Pattern TypedNode) → pattern_carried (relabelled_pattern kept p) ≡ map f (pattern_carried p)
    pattern_kept (wildcard a) = refl
    pattern_kept (variable_pattern a x) = refl
    pattern_kept (constructor_pattern a c parts) = under a (parts_carried parts) (parts_kept parts)
    pattern_kept (tuple_pattern a parts) = under a (parts_carried parts) (parts_kept parts)

    parts_kept : (ps : Patterns TypedNode) → parts_carried (relabelled_parts kept ps) ≡ map f (parts_carried ps)
    parts_kept no_patterns = refl
    parts_kept (more_patterns p ps) = both (pattern_carried p) (parts_carried ps) (pattern_kept p) (parts_kept ps)

  row_kept : (ps : List (Pattern TypedNode)) → row_carried (relabelled_row kept ps) ≡ map f (row_carried ps)
  row_kept [] = refl
  row_kept (p ∷ ps) = both (pattern_carried p) (row_carried ps) (pattern_kept p) (row_kept ps)

  mutual
    expression_kept : (e : Expression TypedNode) → expression_carried (relabelled_expression kept e) ≡ map f (expression_carried e)
    expression_kept (variable a x) = refl
    expression_kept (constructor a c) = refl
    expression_kept (application a head parts) =
        under a (expression_carried head ++ expressions_carried parts) (both (expression_carried head) (expressions_carried parts) (expression_kept head) (expressions_kept parts))
    expression_kept (tuple a parts) = under a (expressions_carried parts) (expressions_kept parts)
    expression_kept (chain a operands operators) =
        under a (expressions_carried operands ++ expressions_carried operators) (both (expressions_carried operands) (expressions_carried operators) (expressions_kept operands) (expressions_kept operators))
    expression_kept (lambda a pats body) = under a (row_carried pats ++ expression_carried body) (both (row_carried pats) (expression_carried body) (row_kept pats) (expression_kept body))
    expression_kept (let_in a group body) = under a (group_carried group ++ expression_carried body) (both (group_carried group) (expression_carried body) (group_kept group) (expression_kept body))
    expression_kept (if_then_else a test first second) =
        under a (expression_carried test ++ (expression_carried first ++ expression_carried second))
        (both (expression_carried test) (expression_carried first ++ expression_carried second) (expression_kept test)
        (both (expression_carried first) (expression_carried second) (expression_kept first) (expression_kept second)))
    expression_kept (case_of a scrutinee rows) =
        under a (expression_carried scrutinee ++ clauses_carried rows) (both (expression_carried scrutinee) (clauses_carried rows) (expression_kept scrutinee) (clauses_kept rows))
    expression_kept (do_block a statements) = under a (statements_carried statements) (statements_kept statements)

    expressions_kept : (es : Expressions TypedNode) → expressions_carried (relabelled_expressions kept es) ≡ map f (expressions_carried es)
    expressions_kept no_expressions = refl
    expressions_kept (more_expressions e es) = both (expression_carried e) (expressions_carried es) (expression_kept e) (expressions_kept es)

    clause_kept : (c : Alternative TypedNode) → clause_carried (relabelled_alternative kept c) ≡ map f (clause_carried c)
    clause_kept (alternative a pats side wheres) =
        under a (row_carried pats ++ (side_carried side ++ group_carried wheres))
        (both (row_carried pats) (side_carried side ++ group_carried wheres) (row_kept pats) (both (side_carried side) (group_carried wheres) (side_kept side) (group_kept wheres)))

    clauses_kept : (cs : Alternatives TypedNode) → clauses_carried (relabelled_alternatives kept cs) ≡ map f (clauses_carried cs)
    clauses_kept no_alternatives = refl
    clauses_kept (more_alternatives c cs) = both (clause_carried c) (clauses_carried cs) (clause_kept c) (clauses_kept cs)

    side_kept : (s : RightSide TypedNode) → side_carried (relabelled_side kept s) ≡ map f (side_carried s)
    side_kept (plain_side body) = expression_kept body
    side_kept (guarded_side bodies) = bodies_kept bodies

    body_kept : (b : GuardedBody TypedNode) → body_carried (relabelled_body kept b) ≡ map f (body_carried b)
    body_kept (guarded_body test body) = both (expression_carried test) (expression_carried body) (expression_kept test) (expression_kept body)

    bodies_kept : (bs : GuardedBodies TypedNode) → bodies_carried (relabelled_bodies kept bs) ≡ map f (bodies_carried bs)
    bodies_kept no_bodies = refl
    bodies_kept (more_bodies b bs) = both (body_carried b) (bodies_carried bs) (body_kept b) (bodies_kept bs)

    binding_kept : (b : LocalBinding TypedNode) → binding_carried (relabelled_binding kept b) ≡ map f (binding_carried b)
    binding_kept (local_signature a x type) = refl
    binding_kept (local_function a x clauses) = under a (clauses_carried clauses) (clauses_kept clauses)
    binding_kept (local_pattern a bound) = under a (clause_carried bound) (clause_kept bound)

    group_kept : (bs : LocalBindings TypedNode) → group_carried (relabelled_group kept bs) ≡ map f (group_carried bs)
    group_kept no_bindings = refl
    group_kept (more_bindings b bs) = both (binding_carried b) (group_carried bs) (binding_kept b) (group_kept bs)

    statement_kept : (s : Statement TypedNode) → statement_carried (relabelled_statement kept s) ≡ map f (statement_carried s)
    statement_kept (bind_statement a p e) = under a (pattern_carried p ++ expression_carried e) (both (pattern_carried p) (expression_carried e) (pattern_kept p) (expression_kept e))
    statement_kept (let_statement a group) = under a (group_carried group) (group_kept group)
    statement_kept (run_statement a e) = under a (expression_carried e) (expression_kept e)

    statements_kept : (ss : Statements TypedNode) → statements_carried (relabelled_statements kept ss) ≡ map f (statements_carried ss)
    statements_kept no_statements = refl
    statements_kept (more_statements s ss) = both (statement_carried s) (statements_carried ss) (statement_kept s) (statements_kept ss)

  all_clauses_kept : (cs : List (Alternative TypedNode)) → all_clauses_carried (map (relabelled_alternative kept) cs) ≡ map f (all_clauses_carried cs)
  all_clauses_kept [] = refl
  all_clauses_kept (c ∷ cs) = both (clause_carried c) (all_clauses_carried cs) (clause_kept c) (all_clauses_kept cs)

  pub declaration_kept : (d : Declaration TypedNode) → declaration_carried (relabelled_declaration kept d) ≡ map f (declaration_carried d)
  declaration_kept (import_declaration a m) = refl
  declaration_kept (data_declaration a x params constructors) = refl
  declaration_kept (fixity_declaration a side strength names) = refl
  declaration_kept (signature_declaration a names type) = refl
  declaration_kept (function_declaration a x clauses) = under a (all_clauses_carried clauses) (all_clauses_kept clauses)
