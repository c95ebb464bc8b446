-- A bound tree with a label at each node that has a number: what stood there, the number, and how many arguments its instance has.
-- These have the numbers after it, and the parts of the node come then.
use Rattle.std.specs.Prelude.{ℕ, suc, ◌+◌, List, [], ◌∷◌, length, Bool, true, false}
use Rattle.rw_scope_rules.specs.declared.binding.Bound.{Bound}
use Rattle.rw_scope_rules.specs.declared.binding.Operation.TheVariants.{Bind, Then}
use Rattle.rw_tree.specs.Patterns.{Pattern, wildcard, variable_pattern, constructor_pattern, tuple_pattern, Patterns, no_patterns, more_patterns}
use Rattle.rw_tree.specs.Trees.{Expression, variable, constructor, application, tuple, chain, lambda, let_in, if_then_else, case_of, do_block, Expressions, no_expressions, more_expressions}
use Rattle.rw_tree.specs.Trees.{Alternative, alternative, Alternatives, no_alternatives, more_alternatives, RightSide, plain_side, guarded_side, GuardedBody, guarded_body, GuardedBodies, no_bodies, more_bodies}
use Rattle.rw_tree.specs.Trees.{LocalBinding, local_signature, local_function, local_pattern, LocalBindings, no_bindings, more_bindings, Statement, bind_statement, let_statement, run_statement, Statements, no_statements, more_statements}
use Rattle.rw_tree.specs.Declarations.{Declaration, import_declaration, data_declaration, fixity_declaration, signature_declaration, function_declaration}
use Rattle.rw_types_rules.specs.Schemes.{operation_scheme, World}
use Rattle.rw_types_rules.specs.TypedTrees.{are_none}
use Rattle.rw_types_numbering.specs.Slots.{name_kinds, pattern_slots, row_slots, expression_slots, expressions_slots, clause_slots, side_slots, body_slots, binding_slots, group_slots, statement_slots}

-- over the label of a node, its number, and how many arguments it has
module _ {L : Type 0} (label : Bound → ℕ → ℕ → L) (world : World) where
  -- the tree numbered from n on
  abbrev mutual
    pub labelled_pattern : ℕ → Pattern Bound → Pattern L
    labelled_pattern n (wildcard a) = wildcard (label a n 0)
    labelled_pattern n (variable_pattern a x) = variable_pattern (label a n 0) x
    labelled_pattern n (constructor_pattern a c parts) =
        constructor_pattern (label a n (length (name_kinds world a))) c (labelled_parts (suc n + length (name_kinds world a)) parts)
    labelled_pattern n (tuple_pattern a parts) = tuple_pattern (label a n 0) (labelled_parts (suc n) parts)

    pub labelled_parts : ℕ → Patterns Bound → Patterns L
    labelled_parts n no_patterns = no_patterns
    labelled_parts n (more_patterns p ps) = more_patterns (labelled_pattern n p) (labelled_parts (n + length (pattern_slots world p)) ps)

  abbrev pub labelled_row : ℕ → List (Pattern Bound) → List (Pattern L)
  labelled_row n [] = []
  labelled_row n (p ∷ ps) = labelled_pattern n p ∷ labelled_row (n + length (pattern_slots world p)) ps

  abbrev mutual
    pub labelled_expression : ℕ → Expression Bound → Expression L
    labelled_expression n (variable a x) = variable (label a n (length (name_kinds world a))) x
    labelled_expression n (constructor a c) = constructor (label a n (length (name_kinds world a))) c
    labelled_expression n (application a head parts) =
        application (label a n 0) (labelled_expression (suc n) head) (labelled_expressions (suc n + length (expression_slots world head)) parts)
    labelled_expression n (tuple a parts) = tuple (label a n 0) (labelled_expressions (suc n) parts)
    labelled_expression n (chain a operands operators) =
        chain (label a n 0) (labelled_expressions (suc n) operands) (labelled_expressions (suc n + length (expressions_slots world operands)) operators)
    labelled_expression n (lambda a pats body) = lambda (label a n 0) (labelled_row (suc n) pats) (labelled_expression (suc n + length (row_slots world pats)) body)
    labelled_expression n (let_in a group body) = let_in (label a n 0) (labelled_group (suc n) group) (labelled_expression (suc n + length (group_slots world group)) body)
    labelled_expression n (if_then_else a test first second) =
        if_then_else (label a n 0) (labelled_expression (suc n) test) (labelled_expression (suc n + length (expression_slots world test)) first)
        (labelled_expression ((suc n + length (expression_slots world test)) + length (expression_slots world first)) second)
    labelled_expression n (case_of a scrutinee rows) =
        case_of (label a n 0) (labelled_expression (suc n) scrutinee) (labelled_clauses (suc n + length (expression_slots world scrutinee)) rows)
    labelled_expression n (do_block a statements) = do_block (label a n 0) (labelled_statements (suc n) statements)

    pub labelled_expressions : ℕ → Expressions Bound → Expressions L
    labelled_expressions n no_expressions = no_expressions
    labelled_expressions n (more_expressions e es) = more_expressions (labelled_expression n e) (labelled_expressions (n + length (expression_slots world e)) es)

    pub labelled_clause : ℕ → Alternative Bound → Alternative L
    labelled_clause n (alternative a pats side wheres) =
        alternative (label a n 0) (labelled_row (suc n) pats) (labelled_side (suc n + length (row_slots world pats)) side)
        (labelled_group ((suc n + length (row_slots world pats)) + length (side_slots world side)) wheres)

    pub labelled_clauses : ℕ → Alternatives Bound → Alternatives L
    labelled_clauses n no_alternatives = no_alternatives
    labelled_clauses n (more_alternatives c cs) = more_alternatives (labelled_clause n c) (labelled_clauses (n + length (clause_slots world c)) cs)

    pub labelled_side : ℕ → RightSide Bound → RightSide L
    labelled_side n (plain_side body) = plain_side (labelled_expression n body)
    labelled_side n (guarded_side bodies) = guarded_side (labelled_bodies n bodies)

    pub labelled_body : ℕ → GuardedBody Bound → GuardedBody L
    labelled_body n (guarded_body test body) = guarded_body (labelled_expression n test) (labelled_expression (n + length (expression_slots world test)) body)

    pub labelled_bodies : ℕ → GuardedBodies Bound → GuardedBodies L
    labelled_bodies n no_bodies = no_bodies
    labelled_bodies n (more_bodies b bs) = more_bodies (labelled_body n b) (labelled_bodies (n + length (body_slots world b)) bs)

    pub labelled_binding : ℕ → LocalBinding Bound → LocalBinding L
    labelled_binding n (local_signature a x type) = local_signature (label a n 0) x type
    labelled_binding n (local_function a x clauses) = local_function (label a n 0) x (labelled_clauses (suc n) clauses)
    labelled_binding n (local_pattern a bound) = local_pattern (label a n 0) (labelled_clause (suc n) bound)

    pub labelled_group : ℕ → LocalBindings Bound → LocalBindings L
    labelled_group n no_bindings = no_bindings
    labelled_group n (more_bindings b bs) = more_bindings (labelled_binding n b) (labelled_group (n + length (binding_slots world b)) bs)

    -- a statement, the last of its block or another
    pub labelled_statement : Bool → ℕ → Statement Bound → Statement L
    labelled_statement last n (bind_statement a p e) =
        bind_statement (label a n (length (operation_scheme Bind).kinds)) (labelled_pattern (suc n + length (operation_scheme Bind).kinds) p)
        (labelled_expression ((suc n + length (operation_scheme Bind).kinds) + length (pattern_slots world p)) e)
    labelled_statement last n (let_statement a group) = let_statement (label a n 0) (labelled_group (suc n) group)
    labelled_statement true n (run_statement a e) = run_statement (label a n 0) (labelled_expression (suc n) e)
    labelled_statement false n (run_statement a e) =
        run_statement (label a n (length (operation_scheme Then).kinds)) (labelled_expression (suc n + length (operation_scheme Then).kinds) e)

    pub labelled_statements : ℕ → Statements Bound → Statements L
    labelled_statements n no_statements = no_statements
    labelled_statements n (more_statements s ss) =
        more_statements (labelled_statement (are_none ss) n s) (labelled_statements (n + length (statement_slots world (are_none ss) s)) ss)

  abbrev pub labelled_all_clauses : ℕ → List (Alternative Bound) → List (Alternative L)
  labelled_all_clauses n [] = []
  labelled_all_clauses n (c ∷ cs) = labelled_clause n c ∷ labelled_all_clauses (n + length (clause_slots world c)) cs

  abbrev pub labelled_declaration : ℕ → Declaration Bound → Declaration L
  labelled_declaration n (import_declaration a m) = import_declaration (label a n 0) m
  labelled_declaration n (data_declaration a x params constructors) = data_declaration (label a n 0) x params constructors
  labelled_declaration n (fixity_declaration a side strength names) = fixity_declaration (label a n 0) side strength names
  labelled_declaration n (signature_declaration a names type) = signature_declaration (label a n 0) names type
  labelled_declaration n (function_declaration a x clauses) = function_declaration (label a n 0) x (labelled_all_clauses (suc n) clauses)
