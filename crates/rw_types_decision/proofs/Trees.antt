-- That the types of a tree agree under a substitution is what equations say, kind by kind.
use Rattle.std.proofs.Common.{◌≡◌, ℕ, Bool, true, false, List, [], ◌∷◌, ◌++◌, map, refl, sym, ◌∙◌, ap}
use Rattle.rw_tree.specs.Patterns.{Pattern, wildcard, variable_pattern, constructor_pattern, tuple_pattern, Patterns, no_patterns, more_patterns}
use Rattle.rw_tree.specs.Trees.{Expression, variable, constructor, application, tuple, chain, lambda, let_in, if_then_else, case_of, do_block, Expressions, no_expressions, more_expressions}
use Rattle.rw_tree.specs.Trees.{Alternative, alternative, Alternatives, no_alternatives, more_alternatives, RightSide, plain_side, guarded_side, GuardedBody, guarded_body, GuardedBodies, no_bodies, more_bodies}
use Rattle.rw_tree.specs.Trees.{LocalBinding, local_signature, local_function, local_pattern, LocalBindings, no_bindings, more_bindings, Statement, bind_statement, let_statement, run_statement, Statements, no_statements, more_statements}
use Rattle.rw_tree.specs.Declarations.{Declaration, import_declaration, data_declaration, fixity_declaration, signature_declaration, function_declaration}
use Rattle.rw_types_solving.specs.Types.{Ty, apply}
use Rattle.rw_types_rules.specs.Words.{function, functions, tuple_type, unit_type}
use Rattle.rw_types_rules.specs.Written.{type_of}
use Rattle.rw_types_rules.specs.Schemes.{World, bool_type, scheme_at}
use Rattle.rw_types_rules.specs.Relabelled.{relabelled_pattern, relabelled_parts, relabelled_row, relabelled_expression, relabelled_expressions, relabelled_alternative, relabelled_alternatives, relabelled_side, relabelled_body, relabelled_bodies, relabelled_binding, relabelled_group, relabelled_statement, relabelled_statements}
use Rattle.rw_types_rules.specs.TypedTrees.{TypedNode, substituted_node, substituted, alternative_label, pattern_type, row_types, parts_types, expression_type, expressions_types, row_locals, group_locals, statement_locals, are_none}
use Rattle.rw_types_rules.specs.WellTyped.{IsMatched, IsBind, IsThen, PatternAgrees, PartsAgree, RowAgrees, ExpressionAgrees, ExpressionsAgree, ClauseAgrees, ClausesAgree, SideAgrees, BodyAgrees, BodiesAgree, BindingAgrees, BoundPatternAgrees, GroupAgrees, StatementAgrees, StatementsAgree, AllClausesAgree, DeclarationAgrees}
use Rattle.rw_types_laws.proofs.Parts.{tuple_kept, apply_functions}
use Rattle.rw_types_laws.proofs.Locals.{pattern_type_kept, parts_types_kept, row_types_kept, expression_type_kept, expressions_types_kept, clause_type_kept, last_relabelled}
use Rattle.rw_types_laws.proofs.Agreeing.{clause_locals, row_bound, group_bound, statement_bound}
use Rattle.rw_types_laws.proofs.Substituting.{keeping}
use Rattle.rw_types_decision.proofs.Equational.{IsEquational, nothing, never, both, three, four, same, same_as, same_lists_as, along}
use Rattle.rw_types_decision.proofs.Nodes.{instance_is, matched_is, bind_is, then_is, own_is, none_are, name_is, signed_is}

module _ (world : World) where
  -- == Types ==

  tuple_applied : (t : ℕ → Ty) (ts us : List Ty) → us ≡ map (apply t) ts → tuple_type us ≡ apply t (tuple_type ts)
  tuple_applied t ts us e = ap tuple_type e ∙ sym (tuple_kept world (apply t) (keeping t world) ts)

  functions_applied : (t : ℕ → Ty) (from us : List Ty) (to u : Ty) → us ≡ map (apply t) from → u ≡ apply t to → functions us u ≡ apply t (functions from to)
  functions_applied t from us to u e f = ap (λ z. functions z u) e ∙ ap (functions (map (apply t) from)) f ∙ sym (apply_functions t from to)

  is_tuple : (type : Ty) (parts : Expressions TypedNode) → IsEquational (λ t. apply t type ≡ tuple_type (expressions_types (relabelled_expressions (substituted_node t) parts)))
  is_tuple type parts = same_as type (tuple_type (expressions_types parts)) (λ t. refl) (λ t. tuple_applied t (expressions_types parts) _ (expressions_types_kept (apply t) parts))

  is_test : (e : Expression TypedNode) → IsEquational (λ t. expression_type (relabelled_expression (substituted_node t) e) ≡ bool_type world)
  is_test e = same_as (expression_type e) (bool_type world) (λ t. expression_type_kept (apply t) e) (λ t. sym (keeping t world).truth)

  is_of : (type : Ty) (e : Expression TypedNode) → IsEquational (λ t. apply t type ≡ expression_type (relabelled_expression (substituted_node t) e))
  is_of type e = same_as type (expression_type e) (λ t. refl) (λ t. expression_type_kept (apply t) e)

  of_is : (type : Ty) (e : Expression TypedNode) → IsEquational (λ t. expression_type (relabelled_expression (substituted_node t) e) ≡ apply t type)
  of_is type e = same_as (expression_type e) type (λ t. expression_type_kept (apply t) e) (λ t. refl)

  is_function : (from : List Ty) (type : Ty) (e : Expression TypedNode)
      → IsEquational (λ t. apply t type ≡ functions (map (apply t) from) (expression_type (relabelled_expression (substituted_node t) e)))
  is_function from type e =
      same_as type (functions from (expression_type e)) (λ t. refl) (λ t. functions_applied t from _ (expression_type e) _ refl (expression_type_kept (apply t) e))

  is_applied : (head : Expression TypedNode) (parts : Expressions TypedNode) (type : Ty)
      → IsEquational (λ t. expression_type (relabelled_expression (substituted_node t) head) ≡ functions (expressions_types (relabelled_expressions (substituted_node t) parts)) (apply t type))
  is_applied head parts type =
      same_as (expression_type head) (functions (expressions_types parts) type) (λ t. expression_type_kept (apply t) head)
      (λ t. functions_applied t (expressions_types parts) _ type _ (expressions_types_kept (apply t) parts) refl)

  is_lambda : (pats : List (Pattern TypedNode)) (body : Expression TypedNode) (type : Ty)
      → IsEquational (λ t. apply t type ≡ functions (row_types (relabelled_row (substituted_node t) pats)) (expression_type (relabelled_expression (substituted_node t) body)))
  is_lambda pats body type =
      same_as type (functions (row_types pats) (expression_type body)) (λ t. refl)
      (λ t. functions_applied t (row_types pats) _ (expression_type body) _ (row_types_kept (apply t) pats) (expression_type_kept (apply t) body))

  clause_is : (c : Alternative TypedNode) (type : Ty) → IsEquational (λ t. (alternative_label (relabelled_alternative (substituted_node t) c)).type ≡ apply t type)
  clause_is c type = same_as (alternative_label c).type type (λ t. clause_type_kept (apply t) c) (λ t. refl)

  -- == Patterns ==

  mutual
    pattern_agrees : (p : Pattern TypedNode) → IsEquational (λ t. PatternAgrees world (relabelled_pattern (substituted_node t) p))
    pattern_agrees (wildcard a) = nothing
    pattern_agrees (variable_pattern a x) = nothing
    pattern_agrees (constructor_pattern a c parts) =
        both
        (along (λ t z. IsMatched (scheme_at world a.node.bound) (map (apply t) a.arguments) z (apply t a.type)) (λ t. sym (parts_types_kept (apply t) parts))
        (matched_is (scheme_at world a.node.bound) a.arguments (parts_types parts) a.type))
        (parts_agree parts)
    pattern_agrees (tuple_pattern a parts) =
        both (same_as a.type (tuple_type (parts_types parts)) (λ t. refl) (λ t. tuple_applied t (parts_types parts) _ (parts_types_kept (apply t) parts))) (parts_agree parts)

    parts_agree : (ps : Patterns TypedNode) → IsEquational (λ t. PartsAgree world (relabelled_parts (substituted_node t) ps))
    parts_agree no_patterns = nothing
    parts_agree (more_patterns p ps) = both (pattern_agrees p) (parts_agree ps)

  row_agrees : (ps : List (Pattern TypedNode)) → IsEquational (λ t. RowAgrees world (relabelled_row (substituted_node t) ps))
  row_agrees [] = nothing
  row_agrees (p ∷ ps) = both (pattern_agrees p) (row_agrees ps)

  -- == Local names ==

  under_row : (t : ℕ → Ty) (locals : List Ty) (pats : List (Pattern TypedNode)) → map (apply t) (locals ++ row_locals pats) ≡ map (apply t) locals ++ row_locals (relabelled_row (substituted_node t) pats)
  under_row t locals pats = row_bound world (apply t) (keeping t world) locals pats

  under_group : (t : ℕ → Ty) (locals : List Ty) (bs : LocalBindings TypedNode) → map (apply t) (locals ++ group_locals bs) ≡ map (apply t) locals ++ group_locals (relabelled_group (substituted_node t) bs)
  under_group t locals bs = group_bound world (apply t) (keeping t world) locals bs

  under_statement : (t : ℕ → Ty) (locals : List Ty) (s : Statement TypedNode) → map (apply t) (locals ++ statement_locals s) ≡ map (apply t) locals ++ statement_locals (relabelled_statement (substituted_node t) s)
  under_statement t locals s = statement_bound world (apply t) (keeping t world) locals s

  under_clause : (t : ℕ → Ty) (locals : List Ty) (pats : List (Pattern TypedNode)) (wheres : LocalBindings TypedNode) → map (apply t) ((locals ++ row_locals pats) ++ group_locals wheres)
      ≡ (map (apply t) locals ++ row_locals (relabelled_row (substituted_node t) pats)) ++ group_locals (relabelled_group (substituted_node t) wheres)
  under_clause t locals pats wheres = clause_locals world (apply t) (keeping t world) locals pats wheres

  -- == Expressions ==

  mutual
    expression_agrees : (locals : List Ty) (e : Expression TypedNode) → IsEquational (λ t. ExpressionAgrees world (map (apply t) locals) (relabelled_expression (substituted_node t) e))
    expression_agrees locals (variable a x) = name_is world locals a.node.bound a
    expression_agrees locals (constructor a c) = instance_is (scheme_at world a.node.bound) a.arguments a.type
    expression_agrees locals (application a head parts) = three (is_applied head parts a.type) (expression_agrees locals head) (expressions_agree locals parts)
    expression_agrees locals (tuple a parts) = both (is_tuple a.type parts) (expressions_agree locals parts)
    expression_agrees locals (chain a operands operators) = never
    expression_agrees locals (lambda a pats body) =
        three (is_lambda pats body a.type) (row_agrees pats)
        (along (λ t z. ExpressionAgrees world z (relabelled_expression (substituted_node t) body)) (λ t. under_row t locals pats) (expression_agrees (locals ++ row_locals pats) body))
    expression_agrees locals (let_in a group body) =
        three (is_of a.type body) (along (λ t z. GroupAgrees world z (relabelled_group (substituted_node t) group)) (λ t. under_group t locals group) (group_agrees (locals ++ group_locals group) group))
        (along (λ t z. ExpressionAgrees world z (relabelled_expression (substituted_node t) body)) (λ t. under_group t locals group) (expression_agrees (locals ++ group_locals group) body))
    expression_agrees locals (if_then_else a test first second) =
        four (three (is_test test) (is_of a.type first) (is_of a.type second)) (expression_agrees locals test) (expression_agrees locals first) (expression_agrees locals second)
    expression_agrees locals (case_of a scrutinee rows) =
        both (expression_agrees locals scrutinee)
        (along (λ t z. ClausesAgree world (map (apply t) locals) (function z (apply t a.type)) (relabelled_alternatives (substituted_node t) rows)) (λ t. sym (expression_type_kept (apply t) scrutinee))
        (clauses_agree locals (function (expression_type scrutinee) a.type) rows))
    expression_agrees locals (do_block a statements) = statements_agree locals a.type statements

    expressions_agree : (locals : List Ty) (es : Expressions TypedNode) → IsEquational (λ t. ExpressionsAgree world (map (apply t) locals) (relabelled_expressions (substituted_node t) es))
    expressions_agree locals no_expressions = nothing
    expressions_agree locals (more_expressions e es) = both (expression_agrees locals e) (expressions_agree locals es)

    clause_agrees : (locals : List Ty) (c : Alternative TypedNode) → IsEquational (λ t. ClauseAgrees world (map (apply t) locals) (relabelled_alternative (substituted_node t) c))
    clause_agrees locals (alternative a pats side wheres) =
        three (row_agrees pats)
        (along
        (λ t z. SideAgrees world ((map (apply t) locals ++ row_locals (relabelled_row (substituted_node t) pats)) ++ group_locals (relabelled_group (substituted_node t) wheres)) z (apply t a.type) (relabelled_side (substituted_node t) side))
        (λ t. sym (row_types_kept (apply t) pats))
        (along (λ t z. SideAgrees world z (map (apply t) (row_types pats)) (apply t a.type) (relabelled_side (substituted_node t) side)) (λ t. under_clause t locals pats wheres)
        (side_agrees ((locals ++ row_locals pats) ++ group_locals wheres) (row_types pats) a.type side)))
        (along (λ t z. GroupAgrees world z (relabelled_group (substituted_node t) wheres)) (λ t. under_clause t locals pats wheres) (group_agrees ((locals ++ row_locals pats) ++ group_locals wheres) wheres))

    clauses_agree : (locals : List Ty) (type : Ty) (cs : Alternatives TypedNode) → IsEquational (λ t. ClausesAgree world (map (apply t) locals) (apply t type) (relabelled_alternatives (substituted_node t) cs))
    clauses_agree locals type no_alternatives = nothing
    clauses_agree locals type (more_alternatives c cs) = three (clause_is c type) (clause_agrees locals c) (clauses_agree locals type cs)

    side_agrees : (locals from : List Ty) (type : Ty) (side : RightSide TypedNode) → IsEquational (λ t. SideAgrees world (map (apply t) locals) (map (apply t) from) (apply t type) (relabelled_side (substituted_node t) side))
    side_agrees locals from type (plain_side body) = both (is_function from type body) (expression_agrees locals body)
    side_agrees locals from type (guarded_side bodies) = bodies_agree locals from type bodies

    body_agrees : (locals from : List Ty) (type : Ty) (b : GuardedBody TypedNode) → IsEquational (λ t. BodyAgrees world (map (apply t) locals) (map (apply t) from) (apply t type) (relabelled_body (substituted_node t) b))
    body_agrees locals from type (guarded_body test body) = three (both (is_test test) (is_function from type body)) (expression_agrees locals test) (expression_agrees locals body)

    bodies_agree : (locals from : List Ty) (type : Ty) (bs : GuardedBodies TypedNode) → IsEquational (λ t. BodiesAgree world (map (apply t) locals) (map (apply t) from) (apply t type) (relabelled_bodies (substituted_node t) bs))
    bodies_agree locals from type no_bodies = nothing
    bodies_agree locals from type (more_bodies b bs) = both (body_agrees locals from type b) (bodies_agree locals from type bs)

    binding_agrees : (locals : List Ty) (b : LocalBinding TypedNode) → IsEquational (λ t. BindingAgrees world (map (apply t) locals) (relabelled_binding (substituted_node t) b))
    binding_agrees locals (local_signature a x type) =
        both (same_as a.type (type_of world.types [] type) (λ t. refl) (λ t. sym ((keeping t world).written type))) (signed_is locals a.node.bound a.type)
    binding_agrees locals (local_function a x clauses) = clauses_agree locals a.type clauses
    binding_agrees locals (local_pattern a bound) = bound_agrees locals a.type bound

    bound_agrees : (locals : List Ty) (type : Ty) (c : Alternative TypedNode) → IsEquational (λ t. BoundPatternAgrees world (map (apply t) locals) (apply t type) (relabelled_alternative (substituted_node t) c))
    bound_agrees locals type (alternative a pats side wheres) =
        three (three (same a.type type) (same_lists_as (row_types pats) (type ∷ []) (λ t. row_types_kept (apply t) pats) (λ t. refl)) (row_agrees pats))
        (along (λ t z. SideAgrees world z [] (apply t type) (relabelled_side (substituted_node t) side)) (λ t. under_group t locals wheres) (side_agrees (locals ++ group_locals wheres) [] type side))
        (along (λ t z. GroupAgrees world z (relabelled_group (substituted_node t) wheres)) (λ t. under_group t locals wheres) (group_agrees (locals ++ group_locals wheres) wheres))

    group_agrees : (locals : List Ty) (bs : LocalBindings TypedNode) → IsEquational (λ t. GroupAgrees world (map (apply t) locals) (relabelled_group (substituted_node t) bs))
    group_agrees locals no_bindings = nothing
    group_agrees locals (more_bindings b bs) = both (binding_agrees locals b) (group_agrees locals bs)

    statement_agrees : (locals : List Ty) (block : Ty) (last : Bool) (s : Statement TypedNode)
        → IsEquational (λ t. StatementAgrees world (map (apply t) locals) (apply t block) last (relabelled_statement (substituted_node t) s))
    statement_agrees locals block true (run_statement a e) = both (three (same a.type block) (none_are a.arguments) (of_is block e)) (expression_agrees locals e)
    statement_agrees locals block true (bind_statement a p e) = never
    statement_agrees locals block true (let_statement a group) = never
    statement_agrees locals block false (run_statement a e) =
        both
        (both (same a.type block)
        (along (λ t z. IsThen (map (apply t) a.arguments) z (apply t block)) (λ t. sym (expression_type_kept (apply t) e)) (then_is a.arguments (expression_type e) block)))
        (expression_agrees locals e)
    statement_agrees locals block false (bind_statement a p e) =
        three
        (both (same a.type block)
        (along (λ t z. IsBind (map (apply t) a.arguments) (expression_type (relabelled_expression (substituted_node t) e)) z (apply t block)) (λ t. sym (pattern_type_kept (apply t) p))
        (along (λ t z. IsBind (map (apply t) a.arguments) z (apply t (pattern_type p)) (apply t block)) (λ t. sym (expression_type_kept (apply t) e))
        (bind_is a.arguments (expression_type e) (pattern_type p) block))))
        (pattern_agrees p) (expression_agrees locals e)
    statement_agrees locals block false (let_statement a group) =
        both (same a.type block) (along (λ t z. GroupAgrees world z (relabelled_group (substituted_node t) group)) (λ t. under_group t locals group) (group_agrees (locals ++ group_locals group) group))

    statements_agree : (locals : List Ty) (block : Ty) (ss : Statements TypedNode) → IsEquational (λ t. StatementsAgree world (map (apply t) locals) (apply t block) (relabelled_statements (substituted_node t) ss))
    statements_agree locals block no_statements = nothing
    statements_agree locals block (more_statements s ss) =
        both
        (along (λ t z. StatementAgrees world (map (apply t) locals) (apply t block) z (relabelled_statement (substituted_node t) s)) (λ t. sym (last_relabelled (substituted_node t) ss)) (statement_agrees locals block (are_none ss) s))
        (along (λ t z. StatementsAgree world z (apply t block) (relabelled_statements (substituted_node t) ss)) (λ t. under_statement t locals s) (statements_agree (locals ++ statement_locals s) block ss))

  -- == Declarations ==

  all_clauses_agree : (type : Ty) (cs : List (Alternative TypedNode)) → IsEquational (λ t. AllClausesAgree world (apply t type) (map (relabelled_alternative (substituted_node t)) cs))
  all_clauses_agree type [] = nothing
  all_clauses_agree type (c ∷ cs) = three (clause_is c type) (clause_agrees [] c) (all_clauses_agree type cs)

  is_unit : (a : TypedNode) → IsEquational (λ t. apply t a.type ≡ unit_type)
  is_unit a = same_as a.type unit_type (λ t. refl) (λ t. refl)

  pub declaration_agrees : (d : Declaration TypedNode) → IsEquational (λ t. DeclarationAgrees world (substituted t d))
  declaration_agrees (import_declaration a m) = is_unit a
  declaration_agrees (data_declaration a x params constructors) = is_unit a
  declaration_agrees (fixity_declaration a side strength names) = is_unit a
  declaration_agrees (signature_declaration a names type) = is_unit a
  declaration_agrees (function_declaration a x clauses) = both (own_is (scheme_at world a.node.bound) a.type) (all_clauses_agree a.type clauses)
