-- The nodes of the typed tree of an assignment carry what they may exactly where the assignment fits the kinds of the tree's numbers.
use Rattle.std.proofs.Common.{◌↔◌, ℕ, suc, ◌+◌, Bool, true, false, List, [], ◌∷◌, length, refl}
use Rattle.std.specs.List.{flat_map}
use Rattle.rw_scope_rules.specs.declared.binding.Bound.{Bound}
use Rattle.rw_scope_rules.specs.declared.binding.Operation.TheVariants.{Bind, Then}
use Rattle.rw_scope_rules.specs.Nodes.{expression_node, pattern_node, clause_node, binding_node, statement_node, pattern_nodes, parts_nodes, row_nodes, expression_nodes, expressions_nodes, clause_nodes, clauses_nodes, side_nodes, body_nodes, bodies_nodes, binding_nodes, group_nodes, statement_nodes, statements_nodes, declaration_nodes}
use Rattle.rw_tree.specs.Patterns.{Pattern, wildcard, variable_pattern, constructor_pattern, tuple_pattern, Patterns, no_patterns, more_patterns}
use Rattle.rw_tree.specs.Trees.{Expression, variable, constructor, application, tuple, chain, lambda, let_in, if_then_else, case_of, do_block, Expressions, no_expressions, more_expressions}
use Rattle.rw_tree.specs.Trees.{Alternative, alternative, Alternatives, no_alternatives, more_alternatives, RightSide, plain_side, guarded_side, GuardedBody, guarded_body, GuardedBodies, no_bodies, more_bodies}
use Rattle.rw_tree.specs.Trees.{LocalBinding, local_signature, local_function, local_pattern, LocalBindings, no_bindings, more_bindings, Statement, bind_statement, let_statement, run_statement, Statements, no_statements, more_statements}
use Rattle.rw_tree.specs.Declarations.{Declaration, import_declaration, data_declaration, fixity_declaration, signature_declaration, function_declaration}
use Rattle.rw_types_solving.specs.declared.term.Sort.{Sort}
use Rattle.rw_types_solving.specs.Types.{Ty}
use Rattle.rw_types_rules.specs.declared.kind.VariableKind.{VariableKind}
use Rattle.rw_types_rules.specs.Schemes.{operation_scheme, World}
use Rattle.rw_types_rules.specs.TypedTrees.{TypedNode, are_none}
use Rattle.rw_types_rules.specs.WellTyped.{DeclarationAgrees}
use Rattle.rw_types_rules.specs.Typings.{NodesCarry, Carries, declaration_label, own_kinds, IsTyping}
use Rattle.rw_types_numbering.specs.Fits.{Fits, typed_label, typed_declaration}
use Rattle.rw_types_numbering.specs.Labelled.{labelled_pattern, labelled_parts, labelled_row, labelled_expression, labelled_expressions, labelled_clause, labelled_clauses, labelled_side, labelled_body, labelled_bodies, labelled_binding, labelled_group, labelled_statement, labelled_statements, labelled_all_clauses, labelled_declaration}
use Rattle.rw_types_numbering.specs.Slots.{name_kinds, pattern_slots, parts_slots, row_slots, expression_slots, expressions_slots, clause_slots, clauses_slots, side_slots, body_slots, bodies_slots, binding_slots, group_slots, statement_slots, statements_slots, all_clauses_slots, declaration_slots}
use Rattle.rw_types_numbering.proofs.Relabelling.{kept_declaration}
use Rattle.rw_types_numbering.proofs.Exact.{Exact, nothing, joined, above, over, leaf, grouped, plain, bearing}

module _ (sorts : ℕ → Sort) (states : ℕ → Bool) (own : List VariableKind) (world : World) (t : ℕ → Ty) where
  abbrev node : Bound → ℕ → ℕ → TypedNode
  node = typed_label t

  mutual
    exact_pattern : (n : ℕ) (z : Pattern Bound) → Exact sorts states own world t (pattern_nodes (labelled_pattern node world n z)) n (pattern_slots world z)
    exact_pattern n (wildcard a) =
        leaf sorts states own world t (pattern_node (labelled_pattern node world n (wildcard a))) [] (bearing sorts states own world t n [])
    exact_pattern n (variable_pattern a x) =
        leaf sorts states own world t (pattern_node (labelled_pattern node world n (variable_pattern a x))) [] (bearing sorts states own world t n [])
    exact_pattern n (constructor_pattern a c parts) =
        over sorts states own world t (pattern_node (labelled_pattern node world n (constructor_pattern a c parts))) (name_kinds world a) (bearing sorts states own world t n (name_kinds world a))
        (exact_parts (suc n + length (name_kinds world a)) parts)
    exact_pattern n (tuple_pattern a parts) =
        above sorts states own world t (pattern_node (labelled_pattern node world n (tuple_pattern a parts))) (plain sorts states own world t n)
        (exact_parts (suc n) parts)

    exact_parts : (n : ℕ) (z : Patterns Bound) → Exact sorts states own world t (parts_nodes (labelled_parts node world n z)) n (parts_slots world z)
    exact_parts n no_patterns = nothing sorts states own world t n
    exact_parts n (more_patterns p ps) = joined sorts states own world t (exact_pattern n p) (exact_parts (n + length (pattern_slots world p)) ps)

  exact_row : (n : ℕ) (z : List (Pattern Bound)) → Exact sorts states own world t (row_nodes (labelled_row node world n z)) n (row_slots world z)
  exact_row n [] = nothing sorts states own world t n
  exact_row n (p ∷ ps) = joined sorts states own world t (exact_pattern n p) (exact_row (n + length (pattern_slots world p)) ps)

  mutual
    exact_expression : (n : ℕ) (z : Expression Bound) → Exact sorts states own world t (expression_nodes (labelled_expression node world n z)) n (expression_slots world z)
    exact_expression n (variable a x) =
        leaf sorts states own world t (expression_node (labelled_expression node world n (variable a x))) (name_kinds world a) (bearing sorts states own world t n (name_kinds world a))
    exact_expression n (constructor a c) =
        leaf sorts states own world t (expression_node (labelled_expression node world n (constructor a c))) (name_kinds world a) (bearing sorts states own world t n (name_kinds world a))
    exact_expression n (application a head parts) =
        above sorts states own world t (expression_node (labelled_expression node world n (application a head parts))) (plain sorts states own world t n)
        (joined sorts states own world t (exact_expression (suc n) head) (exact_expressions (suc n + length (expression_slots world head)) parts))
    exact_expression n (tuple a parts) =
        above sorts states own world t (expression_node (labelled_expression node world n (tuple a parts))) (plain sorts states own world t n)
        (exact_expressions (suc n) parts)
    exact_expression n (chain a operands operators) =
        above sorts states own world t (expression_node (labelled_expression node world n (chain a operands operators))) (plain sorts states own world t n)
        (joined sorts states own world t (exact_expressions (suc n) operands) (exact_expressions (suc n + length (expressions_slots world operands)) operators))
    exact_expression n (lambda a pats body) =
        above sorts states own world t (expression_node (labelled_expression node world n (lambda a pats body))) (plain sorts states own world t n)
        (joined sorts states own world t (exact_row (suc n) pats) (exact_expression (suc n + length (row_slots world pats)) body))
    exact_expression n (let_in a group body) =
        above sorts states own world t (expression_node (labelled_expression node world n (let_in a group body))) (plain sorts states own world t n)
        (joined sorts states own world t (grouped sorts states own world t (labelled_group node world (suc n) group) (exact_group (suc n) group)) (exact_expression (suc n + length (group_slots world group)) body))
    exact_expression n (if_then_else a test first second) =
        above sorts states own world t (expression_node (labelled_expression node world n (if_then_else a test first second))) (plain sorts states own world t n)
        (joined sorts states own world t (exact_expression (suc n) test) (joined sorts states own world t (exact_expression (suc n + length (expression_slots world test)) first) (exact_expression ((suc n + length (expression_slots world test)) + length (expression_slots world first)) second)))
    exact_expression n (case_of a scrutinee rows) =
        above sorts states own world t (expression_node (labelled_expression node world n (case_of a scrutinee rows))) (plain sorts states own world t n)
        (joined sorts states own world t (exact_expression (suc n) scrutinee) (exact_clauses (suc n + length (expression_slots world scrutinee)) rows))
    exact_expression n (do_block a statements) =
        above sorts states own world t (expression_node (labelled_expression node world n (do_block a statements))) (plain sorts states own world t n)
        (exact_statements (suc n) statements)

    exact_expressions : (n : ℕ) (z : Expressions Bound) → Exact sorts states own world t (expressions_nodes (labelled_expressions node world n z)) n (expressions_slots world z)
    exact_expressions n no_expressions = nothing sorts states own world t n
    exact_expressions n (more_expressions e es) = joined sorts states own world t (exact_expression n e) (exact_expressions (n + length (expression_slots world e)) es)

    exact_clause : (n : ℕ) (z : Alternative Bound) → Exact sorts states own world t (clause_nodes (labelled_clause node world n z)) n (clause_slots world z)
    exact_clause n (alternative a pats side wheres) =
        above sorts states own world t (clause_node (labelled_clause node world n (alternative a pats side wheres))) (plain sorts states own world t n)
        (joined sorts states own world t (exact_row (suc n) pats) (joined sorts states own world t (exact_side (suc n + length (row_slots world pats)) side) (grouped sorts states own world t (labelled_group node world ((suc n + length (row_slots world pats)) + length (side_slots world side)) wheres) (exact_group ((suc n + length (row_slots world pats)) + length (side_slots world side)) wheres))))

    exact_clauses : (n : ℕ) (z : Alternatives Bound) → Exact sorts states own world t (clauses_nodes (labelled_clauses node world n z)) n (clauses_slots world z)
    exact_clauses n no_alternatives = nothing sorts states own world t n
    exact_clauses n (more_alternatives c cs) = joined sorts states own world t (exact_clause n c) (exact_clauses (n + length (clause_slots world c)) cs)

    exact_side : (n : ℕ) (z : RightSide Bound) → Exact sorts states own world t (side_nodes (labelled_side node world n z)) n (side_slots world z)
    exact_side n (plain_side body) = exact_expression n body
    exact_side n (guarded_side bodies) = exact_bodies n bodies

    exact_body : (n : ℕ) (z : GuardedBody Bound) → Exact sorts states own world t (body_nodes (labelled_body node world n z)) n (body_slots world z)
    exact_body n (guarded_body test body) = joined sorts states own world t (exact_expression n test) (exact_expression (n + length (expression_slots world test)) body)

    exact_bodies : (n : ℕ) (z : GuardedBodies Bound) → Exact sorts states own world t (bodies_nodes (labelled_bodies node world n z)) n (bodies_slots world z)
    exact_bodies n no_bodies = nothing sorts states own world t n
    exact_bodies n (more_bodies b bs) = joined sorts states own world t (exact_body n b) (exact_bodies (n + length (body_slots world b)) bs)

    exact_binding : (n : ℕ) (z : LocalBinding Bound) → Exact sorts states own world t (binding_nodes (labelled_binding node world n z)) n (binding_slots world z)
    exact_binding n (local_signature a x type) =
        leaf sorts states own world t (binding_node (labelled_binding node world n (local_signature a x type))) [] (bearing sorts states own world t n [])
    exact_binding n (local_function a x clauses) =
        above sorts states own world t (binding_node (labelled_binding node world n (local_function a x clauses))) (plain sorts states own world t n)
        (exact_clauses (suc n) clauses)
    exact_binding n (local_pattern a bound) =
        above sorts states own world t (binding_node (labelled_binding node world n (local_pattern a bound))) (plain sorts states own world t n)
        (exact_clause (suc n) bound)

    exact_group : (n : ℕ) (z : LocalBindings Bound) → Exact sorts states own world t (group_nodes (labelled_group node world n z)) n (group_slots world z)
    exact_group n no_bindings = nothing sorts states own world t n
    exact_group n (more_bindings b bs) = joined sorts states own world t (exact_binding n b) (exact_group (n + length (binding_slots world b)) bs)

    exact_statement : (last : Bool) (n : ℕ) (z : Statement Bound) → Exact sorts states own world t (statement_nodes (labelled_statement node world last n z)) n (statement_slots world last z)
    exact_statement last n (bind_statement a p e) =
        over sorts states own world t (statement_node (labelled_statement node world last n (bind_statement a p e))) (operation_scheme Bind).kinds (bearing sorts states own world t n (operation_scheme Bind).kinds)
        (joined sorts states own world t (exact_pattern (suc n + length (operation_scheme Bind).kinds) p) (exact_expression ((suc n + length (operation_scheme Bind).kinds) + length (pattern_slots world p)) e))
    exact_statement last n (let_statement a group) =
        above sorts states own world t (statement_node (labelled_statement node world last n (let_statement a group))) (plain sorts states own world t n)
        (grouped sorts states own world t (labelled_group node world (suc n) group) (exact_group (suc n) group))
    exact_statement true n (run_statement a e) =
        above sorts states own world t (statement_node (labelled_statement node world true n (run_statement a e))) (plain sorts states own world t n)
        (exact_expression (suc n) e)
    exact_statement false n (run_statement a e) =
        over sorts states own world t (statement_node (labelled_statement node world false n (run_statement a e))) (operation_scheme Then).kinds (bearing sorts states own world t n (operation_scheme Then).kinds)
        (exact_expression (suc n + length (operation_scheme Then).kinds) e)

    exact_statements : (n : ℕ) (z : Statements Bound) → Exact sorts states own world t (statements_nodes (labelled_statements node world n z)) n (statements_slots world z)
    exact_statements n no_statements = nothing sorts states own world t n
    exact_statements n (more_statements s ss) = joined sorts states own world t (exact_statement (are_none ss) n s) (exact_statements (n + length (statement_slots world (are_none ss) s)) ss)

  exact_all : (n : ℕ) (cs : List (Alternative Bound)) → Exact sorts states own world t (flat_map clause_nodes (labelled_all_clauses node world n cs)) n (all_clauses_slots world cs)
  exact_all n [] = nothing sorts states own world t n
  exact_all n (c ∷ cs) = joined sorts states own world t (exact_clause n c) (exact_all (n + length (clause_slots world c)) cs)

  -- the label of a declaration, and its nodes
  pub exact_declaration : (n : ℕ) (d : Declaration Bound)
      → (Carries sorts states own world [] (declaration_label (labelled_declaration node world n d)) × NodesCarry sorts states own world (declaration_nodes (labelled_declaration node world n d))) ↔ Fits sorts states own world t n (declaration_slots world d)
  exact_declaration n (import_declaration a m) = ((λ h. (h.0.0, tt)), (λ h. ((h.0, tt), tt)))
  exact_declaration n (data_declaration a x params constructors) = ((λ h. (h.0.0, tt)), (λ h. ((h.0, tt), tt)))
  exact_declaration n (fixity_declaration a side strength names) = ((λ h. (h.0.0, tt)), (λ h. ((h.0, tt), tt)))
  exact_declaration n (signature_declaration a names type) = ((λ h. (h.0.0, tt)), (λ h. ((h.0, tt), tt)))
  exact_declaration n (function_declaration a x clauses) =
      let all = exact_all (suc n) clauses in ((λ h. (h.0.0, all.is.0 h.1)), (λ h. ((h.0, tt), all.is.1 h.1)))

-- the typed tree of an assignment is a typing exactly where its types agree and the assignment fits
pub typing_is : (sorts : ℕ → Sort) (states : ℕ → Bool) (world : World) (t : ℕ → Ty) (d : Declaration Bound)
    → IsTyping sorts states world d (typed_declaration t world d)
    ↔ (DeclarationAgrees world (typed_declaration t world d) × Fits sorts states (own_kinds world (typed_declaration t world d)) world t 0 (declaration_slots world d))
typing_is sorts states world t d =
    let exact = exact_declaration sorts states (own_kinds world (typed_declaration t world d)) world t 0 d in (
      (λ h. (h.agrees, exact.0 (h.carries, h.nodes_carry))),
      (λ h. let c = exact.1 h.1 in record {
        erases = kept_declaration (typed_label t) (λ a. a.node) world (λ b n k. refl) 0 d;
        agrees = h.0;
        carries = c.0;
        nodes_carry = c.1;
      }),
    )
