-- What keeps heads, schemes and written types keeps that the types of a tree agree.
use Rattle.std.proofs.Common.{◌≡◌, ℕ, Bool, true, false, List, [], ◌∷◌, ◌++◌, map, refl, sym, ◌∙◌, ap, subst}
use Rattle.rw_tree.specs.Patterns.{Pattern, wildcard, variable_pattern, constructor_pattern, tuple_pattern, Patterns, no_patterns, more_patterns}
use Rattle.rw_tree.specs.Trees.{Expression, variable, constructor, application, tuple, chain, lambda, let_in, if_then_else, case_of, do_block, Expressions, no_expressions, more_expressions}
use Rattle.rw_tree.specs.Trees.{Alternative, alternative, Alternatives, no_alternatives, more_alternatives, RightSide, plain_side, guarded_side, GuardedBody, guarded_body, GuardedBodies, no_bodies, more_bodies}
use Rattle.rw_tree.specs.Trees.{LocalBinding, local_signature, local_function, local_pattern, LocalBindings, no_bindings, more_bindings, Statement, bind_statement, let_statement, run_statement, Statements, no_statements, more_statements}
use Rattle.rw_types_solving.specs.Types.{Ty}
use Rattle.rw_types_rules.specs.Words.{function, functions, tuple_type}
use Rattle.rw_types_rules.specs.Schemes.{World, bool_type, scheme_at}
use Rattle.rw_types_rules.specs.Relabelled.{relabelled_pattern, relabelled_parts, relabelled_row, relabelled_expression, relabelled_expressions, relabelled_alternative, relabelled_alternatives, relabelled_side, relabelled_body, relabelled_bodies, relabelled_binding, relabelled_group, relabelled_statement, relabelled_statements}
use Rattle.rw_types_rules.specs.TypedTrees.{TypedNode, alternative_label, pattern_type, row_types, parts_types, expression_type, expressions_types, row_locals, group_locals, statement_locals, are_none}
use Rattle.rw_types_rules.specs.WellTyped.{IsMatched, IsBind, IsThen, PatternAgrees, PartsAgree, RowAgrees, ExpressionAgrees, ExpressionsAgree, ClauseAgrees, ClausesAgree, SideAgrees, BodyAgrees, BodiesAgree, BindingAgrees, BoundPatternAgrees, GroupAgrees, StatementAgrees, StatementsAgree, AllClausesAgree}
use Rattle.rw_types_laws.proofs.Parts.{IsKeeping, kept_node, function_kept, functions_kept, tuple_kept, instance_kept, matched_kept, bind_kept, then_kept, name_kept, signed_kept}
use Rattle.rw_types_laws.proofs.Locals.{pattern_type_kept, parts_types_kept, row_types_kept, expression_type_kept, expressions_types_kept, clause_type_kept, row_locals_kept, group_locals_kept, statement_locals_kept, last_relabelled, bound_more}

module _ (world : World) (f : Ty → Ty) (k : IsKeeping world f) where
  abbrev kept : TypedNode → TypedNode
  kept a = record { node = a.node; type = f a.type; arguments = map f a.arguments }

  -- patterns
  mutual
    pattern_agrees : (p : Pattern TypedNode) → PatternAgrees world p → PatternAgrees world (relabelled_pattern kept p)
    pattern_agrees (wildcard a) h = tt
    pattern_agrees (variable_pattern a x) h = tt
    pattern_agrees (constructor_pattern a c parts) h = (
      subst (λ z. IsMatched (scheme_at world a.node.bound) (map f a.arguments) z (f a.type)) (sym (parts_types_kept f parts))
          (matched_kept world f k a.node.bound (scheme_at world a.node.bound) refl a.arguments (parts_types parts) a.type h.0),
      parts_agree parts h.1,
    )
    pattern_agrees (tuple_pattern a parts) h =
        (ap f h.0 ∙ tuple_kept world f k (parts_types parts) ∙ ap tuple_type (sym (parts_types_kept f parts)), parts_agree parts h.1)

    parts_agree : (ps : Patterns TypedNode) → PartsAgree world ps → PartsAgree world (relabelled_parts kept ps)
    parts_agree no_patterns h = tt
    parts_agree (more_patterns p ps) h = (pattern_agrees p h.0, parts_agree ps h.1)

  row_agrees : (ps : List (Pattern TypedNode)) → RowAgrees world ps → RowAgrees world (relabelled_row kept ps)
  row_agrees [] h = tt
  row_agrees (p ∷ ps) h = (pattern_agrees p h.0, row_agrees ps h.1)

  -- equations between types
  is_test : (e : Expression TypedNode) → expression_type e ≡ bool_type world → expression_type (relabelled_expression kept e) ≡ bool_type world
  is_test e h = expression_type_kept f e ∙ ap f h ∙ k.truth

  is_of : (type : Ty) (e : Expression TypedNode) → type ≡ expression_type e → f type ≡ expression_type (relabelled_expression kept e)
  is_of type e h = ap f h ∙ sym (expression_type_kept f e)

  is_function : (from : List Ty) (type : Ty) (e : Expression TypedNode) → type ≡ functions from (expression_type e) → f type ≡ functions (map f from) (expression_type (relabelled_expression kept e))
  is_function from type e h = ap f h ∙ functions_kept world f k from (expression_type e) ∙ ap (functions (map f from)) (sym (expression_type_kept f e))

  is_applied : (head : Expression TypedNode) (parts : Expressions TypedNode) (type : Ty) → expression_type head ≡ functions (expressions_types parts) type
      → expression_type (relabelled_expression kept head) ≡ functions (expressions_types (relabelled_expressions kept parts)) (f type)
  is_applied head parts type h =
      expression_type_kept f head ∙ ap f h ∙ functions_kept world f k (expressions_types parts) type ∙ ap (λ z. functions z (f type)) (sym (expressions_types_kept f parts))

  is_tuple : (parts : Expressions TypedNode) (type : Ty) → type ≡ tuple_type (expressions_types parts) → f type ≡ tuple_type (expressions_types (relabelled_expressions kept parts))
  is_tuple parts type h = ap f h ∙ tuple_kept world f k (expressions_types parts) ∙ ap tuple_type (sym (expressions_types_kept f parts))

  is_lambda : (pats : List (Pattern TypedNode)) (body : Expression TypedNode) (type : Ty) → type ≡ functions (row_types pats) (expression_type body)
      → f type ≡ functions (row_types (relabelled_row kept pats)) (expression_type (relabelled_expression kept body))
  is_lambda pats body type h = is_function (row_types pats) type body h ∙ ap (λ z. functions z (expression_type (relabelled_expression kept body))) (sym (row_types_kept f pats))

  -- the local names of a clause, and of a group
  pub clause_locals : (locals : List Ty) (pats : List (Pattern TypedNode)) (wheres : LocalBindings TypedNode)
      → map f ((locals ++ row_locals pats) ++ group_locals wheres) ≡ (map f locals ++ row_locals (relabelled_row kept pats)) ++ group_locals (relabelled_group kept wheres)
  clause_locals locals pats wheres =
      bound_more f (locals ++ row_locals pats) (group_locals wheres) _ (group_locals_kept f wheres)
      ∙ ap (λ z. z ++ group_locals (relabelled_group kept wheres)) (bound_more f locals (row_locals pats) _ (row_locals_kept f pats))

  pub row_bound : (locals : List Ty) (pats : List (Pattern TypedNode)) → map f (locals ++ row_locals pats) ≡ map f locals ++ row_locals (relabelled_row kept pats)
  row_bound locals pats = bound_more f locals (row_locals pats) _ (row_locals_kept f pats)

  pub group_bound : (locals : List Ty) (bs : LocalBindings TypedNode) → map f (locals ++ group_locals bs) ≡ map f locals ++ group_locals (relabelled_group kept bs)
  group_bound locals bs = bound_more f locals (group_locals bs) _ (group_locals_kept f bs)

  pub statement_bound : (locals : List Ty) (s : Statement TypedNode) → map f (locals ++ statement_locals s) ≡ map f locals ++ statement_locals (relabelled_statement kept s)
  statement_bound locals s = bound_more f locals (statement_locals s) _ (statement_locals_kept f s)

  -- expressions
  mutual
    expression_agrees : (locals : List Ty) (e : Expression TypedNode) → ExpressionAgrees world locals e → ExpressionAgrees world (map f locals) (relabelled_expression kept e)
    expression_agrees locals (variable a x) h = name_kept world f k locals a.node.bound a h
    expression_agrees locals (constructor a c) h = instance_kept world f k a.node.bound (scheme_at world a.node.bound) refl a.arguments a.type h
    expression_agrees locals (application a head parts) h = (is_applied head parts a.type h.0, expression_agrees locals head h.1, expressions_agree locals parts h.2)
    expression_agrees locals (tuple a parts) h = (is_tuple parts a.type h.0, expressions_agree locals parts h.1)
    expression_agrees locals (chain a operands operators) h = absurd h
    expression_agrees locals (lambda a pats body) h = (
      is_lambda pats body a.type h.0,
      row_agrees pats h.1,
      subst (λ z. ExpressionAgrees world z (relabelled_expression kept body)) (row_bound locals pats) (expression_agrees (locals ++ row_locals pats) body h.2),
    )
    expression_agrees locals (let_in a group body) h = (
      is_of a.type body h.0,
      subst (λ z. GroupAgrees world z (relabelled_group kept group)) (group_bound locals group) (group_agrees (locals ++ group_locals group) group h.1),
      subst (λ z. ExpressionAgrees world z (relabelled_expression kept body)) (group_bound locals group) (expression_agrees (locals ++ group_locals group) body h.2),
    )
    expression_agrees locals (if_then_else a test first second) h = (
      (is_test test h.0.0, is_of a.type first h.0.1, is_of a.type second h.0.2),
      expression_agrees locals test h.1,
      expression_agrees locals first h.2,
      expression_agrees locals second h.3,
    )
    expression_agrees locals (case_of a scrutinee rows) h = (
      expression_agrees locals scrutinee h.0,
      subst (λ z. ClausesAgree world (map f locals) z (relabelled_alternatives kept rows))
          (function_kept world f k (expression_type scrutinee) a.type ∙ ap (λ z. function z (f a.type)) (sym (expression_type_kept f scrutinee)))
          (clauses_agree locals (function (expression_type scrutinee) a.type) rows h.1),
    )
    expression_agrees locals (do_block a statements) h = statements_agree locals a.type statements h

    expressions_agree : (locals : List Ty) (es : Expressions TypedNode) → ExpressionsAgree world locals es → ExpressionsAgree world (map f locals) (relabelled_expressions kept es)
    expressions_agree locals no_expressions h = tt
    expressions_agree locals (more_expressions e es) h = (expression_agrees locals e h.0, expressions_agree locals es h.1)

    clause_agrees : (locals : List Ty) (c : Alternative TypedNode) → ClauseAgrees world locals c → ClauseAgrees world (map f locals) (relabelled_alternative kept c)
    clause_agrees locals (alternative a pats side wheres) h = (
      row_agrees pats h.0,
      subst (λ z. SideAgrees world ((map f locals ++ row_locals (relabelled_row kept pats)) ++ group_locals (relabelled_group kept wheres)) z (f a.type) (relabelled_side kept side)) (sym (row_types_kept f pats))
          (subst (λ z. SideAgrees world z (map f (row_types pats)) (f a.type) (relabelled_side kept side)) (clause_locals locals pats wheres)
          (side_agrees ((locals ++ row_locals pats) ++ group_locals wheres) (row_types pats) a.type side h.1)),
      subst (λ z. GroupAgrees world z (relabelled_group kept wheres)) (clause_locals locals pats wheres)
          (group_agrees ((locals ++ row_locals pats) ++ group_locals wheres) wheres h.2),
    )

    clauses_agree : (locals : List Ty) (type : Ty) (cs : Alternatives TypedNode) → ClausesAgree world locals type cs → ClausesAgree world (map f locals) (f type) (relabelled_alternatives kept cs)
    clauses_agree locals type no_alternatives h = tt
    clauses_agree locals type (more_alternatives c cs) h = (clause_type_kept f c ∙ ap f h.0, clause_agrees locals c h.1, clauses_agree locals type cs h.2)

    side_agrees : (locals from : List Ty) (type : Ty) (side : RightSide TypedNode) → SideAgrees world locals from type side → SideAgrees world (map f locals) (map f from) (f type) (relabelled_side kept side)
    side_agrees locals from type (plain_side body) h = (is_function from type body h.0, expression_agrees locals body h.1)
    side_agrees locals from type (guarded_side bodies) h = bodies_agree locals from type bodies h

    body_agrees : (locals from : List Ty) (type : Ty) (b : GuardedBody TypedNode) → BodyAgrees world locals from type b → BodyAgrees world (map f locals) (map f from) (f type) (relabelled_body kept b)
    body_agrees locals from type (guarded_body test body) h =
        ((is_test test h.0.0, is_function from type body h.0.1), expression_agrees locals test h.1, expression_agrees locals body h.2)

    bodies_agree : (locals from : List Ty) (type : Ty) (bs : GuardedBodies TypedNode) → BodiesAgree world locals from type bs → BodiesAgree world (map f locals) (map f from) (f type) (relabelled_bodies kept bs)
    bodies_agree locals from type no_bodies h = tt
    bodies_agree locals from type (more_bodies b bs) h = (body_agrees locals from type b h.0, bodies_agree locals from type bs h.1)

    binding_agrees : (locals : List Ty) (b : LocalBinding TypedNode) → BindingAgrees world locals b → BindingAgrees world (map f locals) (relabelled_binding kept b)
    binding_agrees locals (local_signature a x type) h = (ap f h.0 ∙ k.written type, signed_kept world f k locals a.node.bound a.type h.1)
    binding_agrees locals (local_function a x clauses) h = clauses_agree locals a.type clauses h
    binding_agrees locals (local_pattern a bound) h = bound_agrees locals a.type bound h

    bound_agrees : (locals : List Ty) (type : Ty) (c : Alternative TypedNode) → BoundPatternAgrees world locals type c → BoundPatternAgrees world (map f locals) (f type) (relabelled_alternative kept c)
    bound_agrees locals type (alternative a pats side wheres) h = (
      (ap f h.0.0, row_types_kept f pats ∙ ap (map f) h.0.1, row_agrees pats h.0.2),
      subst (λ z. SideAgrees world z [] (f type) (relabelled_side kept side)) (group_bound locals wheres) (side_agrees (locals ++ group_locals wheres) [] type side h.1),
      subst (λ z. GroupAgrees world z (relabelled_group kept wheres)) (group_bound locals wheres) (group_agrees (locals ++ group_locals wheres) wheres h.2),
    )

    group_agrees : (locals : List Ty) (bs : LocalBindings TypedNode) → GroupAgrees world locals bs → GroupAgrees world (map f locals) (relabelled_group kept bs)
    group_agrees locals no_bindings h = tt
    group_agrees locals (more_bindings b bs) h = (binding_agrees locals b h.0, group_agrees locals bs h.1)

    statement_agrees : (locals : List Ty) (block : Ty) (last : Bool) (s : Statement TypedNode) → StatementAgrees world locals block last s → StatementAgrees world (map f locals) (f block) last (relabelled_statement kept s)
    statement_agrees locals block true (run_statement a e) h = ((ap f h.0.0, ap (map f) h.0.1, expression_type_kept f e ∙ ap f h.0.2), expression_agrees locals e h.1)
    statement_agrees locals block true (bind_statement a p e) h = absurd h
    statement_agrees locals block true (let_statement a group) h = absurd h
    statement_agrees locals block false (run_statement a e) h = (
      (
        ap f h.0.0,
        subst (λ z. IsThen (map f a.arguments) z (f block)) (sym (expression_type_kept f e)) (then_kept world f k a.arguments (expression_type e) block h.0.1),
      ),
      expression_agrees locals e h.1,
    )
    statement_agrees locals block false (bind_statement a p e) h = (
      (
        ap f h.0.0,
        subst (λ z. IsBind (map f a.arguments) (expression_type (relabelled_expression kept e)) z (f block)) (sym (pattern_type_kept f p))
            (subst (λ z. IsBind (map f a.arguments) z (f (pattern_type p)) (f block)) (sym (expression_type_kept f e))
            (bind_kept world f k a.arguments (expression_type e) (pattern_type p) block h.0.1)),
      ),
      pattern_agrees p h.1,
      expression_agrees locals e h.2,
    )
    statement_agrees locals block false (let_statement a group) h =
        (ap f h.0, subst (λ z. GroupAgrees world z (relabelled_group kept group)) (group_bound locals group) (group_agrees (locals ++ group_locals group) group h.1))

    statements_agree : (locals : List Ty) (block : Ty) (ss : Statements TypedNode) → StatementsAgree world locals block ss → StatementsAgree world (map f locals) (f block) (relabelled_statements kept ss)
    statements_agree locals block no_statements h = tt
    statements_agree locals block (more_statements s ss) h = (
      subst (λ z. StatementAgrees world (map f locals) (f block) z (relabelled_statement kept s)) (sym (last_relabelled kept ss)) (statement_agrees locals block (are_none ss) s h.0),
      subst (λ z. StatementsAgree world z (f block) (relabelled_statements kept ss)) (statement_bound locals s) (statements_agree (locals ++ statement_locals s) block ss h.1),
    )

  pub all_clauses_agree : (type : Ty) (cs : List (Alternative TypedNode)) → AllClausesAgree world type cs → AllClausesAgree world (f type) (map (relabelled_alternative kept) cs)
  all_clauses_agree type [] h = tt
  all_clauses_agree type (c ∷ cs) h = (clause_type_kept f c ∙ ap f h.0, clause_agrees [] c h.1, all_clauses_agree type cs h.2)
