-- In a bound program the names of constructors in patterns are bound to constructors, if to anything.
use Rattle.std.proofs.Common.{ℕ, suc, List, [], ◌∷◌, ◌++◌, flat_map, map, Some, Bool, true, false, if◌then◌else◌}
use Rattle.std.specs.List.{AllByRecursion}
use Rattle.rw_base.specs.declared.place.Span.{Span}
use Rattle.rw_scope_rules.specs.declared.binding.Binding.{Binding}
use Rattle.rw_scope_rules.specs.declared.binding.Bound.{Bound}
use Rattle.rw_scope_rules.specs.Names.{Bytes, same_name, first_named}
use Rattle.rw_scope_rules.specs.Nodes.{Node, pattern_nodes, parts_nodes, row_nodes, expression_nodes, expressions_nodes, clause_nodes, clauses_nodes, side_nodes, body_nodes, bodies_nodes, binding_nodes, group_nodes, statement_nodes, statements_nodes, clauses_of}
use Rattle.rw_scope_rules.specs.Bindings.{placed_constructors, declared_constructors, declared_by, Tops, tops_of, binding_variables, names_of, group_names, Scope, entered, inside, inside_row, inside_group, inside_statement}
use Rattle.rw_scope_rules.specs.Bindings.{bound_pattern, bound_parts, bound_row, bound_expression, bound_expressions, bound_clause, bound_clauses, bound_side, bound_body, bound_bodies, bound_binding, bound_group, bound_statement, bound_statements, bound_declaration, bound_declarations, bound_program}
use Rattle.rw_tree.specs.Patterns.{Pattern, wildcard, variable_pattern, constructor_pattern, tuple_pattern, Patterns, no_patterns, more_patterns}
use Rattle.rw_tree.specs.Trees.{Expression, variable, constructor, application, tuple, chain, lambda, let_in, if_then_else, case_of, do_block, Expressions, no_expressions, more_expressions}
use Rattle.rw_tree.specs.Trees.{Alternative, alternative, Alternatives, no_alternatives, more_alternatives, RightSide, plain_side, guarded_side, GuardedBody, guarded_body, GuardedBodies, no_bodies, more_bodies}
use Rattle.rw_tree.specs.Trees.{LocalBinding, local_signature, local_function, local_pattern, LocalBindings, no_bindings, more_bindings, Statement, bind_statement, let_statement, run_statement, Statements, no_statements, more_statements}
use Rattle.rw_tree.specs.Declarations.{PlainConstructor, Declaration, import_declaration, data_declaration, fixity_declaration, signature_declaration, function_declaration, PlainProgram}
use Rattle.rw_cover.specs.declared.known.Known.{Known}
use Rattle.rw_cover.specs.Rows.{known_of}
use Rattle.rw_cover_laws.proofs.Agreeing.{all_behind}
use Rattle.rw_meaning_matching.specs.Exact.{MayNameConstructor, NamesConstructors, PartsNameConstructors}
use Rattle.rw_meaning_matching.specs.Rows.{PatternRow, has_body, row_with, pattern_row, pattern_rows, clauses_rows, node_rows, declaration_rows, rows_of, RowNamesConstructors, AllNameConstructors}

-- == Top level ==

abbrev May : Bytes × Binding → Type 0
May v = MayNameConstructor (Some v.1)

found_may : (x : Bytes) (vs : List (Bytes × Binding)) → AllByRecursion May vs → MayNameConstructor (first_named x vs)
found_may x [] h = tt
found_may x (v ∷ vs) h = elim (same_name x v.0) as (λ b. MayNameConstructor (if b then Some v.1 else first_named x vs)) [ true ↦ h.0 | false ↦ found_may x vs h.1 ]

placed_may : (n place : ℕ) (cs : List PlainConstructor) → AllByRecursion May (placed_constructors n place cs)
placed_may n place [] = tt
placed_may n place (c ∷ cs) = (tt, placed_may n (suc place) cs)

declared_may : (n : ℕ) (d : Declaration Span) → AllByRecursion May (declared_constructors n d)
declared_may n (data_declaration a x params constructors) = placed_may n 0 constructors
declared_may n (import_declaration a m) = tt
declared_may n (fixity_declaration a side strength names) = tt
declared_may n (signature_declaration a names type) = tt
declared_may n (function_declaration a x clauses) = tt

all_may : (n : ℕ) (ds : List (Declaration Span)) → AllByRecursion May (declared_by declared_constructors n ds)
all_may n [] = tt
all_may n (d ∷ ds) = all_behind May (declared_constructors n d) (declared_by declared_constructors (suc n) ds) (declared_may n d) (all_may (suc n) ds)

-- == The tree ==

module _ (tops : Tops) (known : Known) (may : (c : Bytes) → MayNameConstructor (first_named c tops.constructors)) where
  mutual
    named_pattern : (scope : Scope) (p : Pattern Span) → NamesConstructors (bound_pattern tops scope p)
    named_pattern scope (wildcard a) = tt
    named_pattern scope (variable_pattern a x) = tt
    named_pattern scope (constructor_pattern a c parts) = (may c, named_parts scope parts)
    named_pattern scope (tuple_pattern a parts) = named_parts scope parts

    named_parts : (scope : Scope) (ps : Patterns Span) → PartsNameConstructors (bound_parts tops scope ps)
    named_parts scope no_patterns = tt
    named_parts scope (more_patterns p ps) = (named_pattern scope p, named_parts (inside p scope) ps)

  named_row : (scope : Scope) (pats : List (Pattern Span)) → AllByRecursion NamesConstructors (bound_row tops scope pats)
  named_row scope [] = tt
  named_row scope (p ∷ ps) = (named_pattern scope p, named_row (inside p scope) ps)

  -- the row of a clause, if it has a body
  row_if : (b : Bool) (row : PatternRow) (rest : List PatternRow) → RowNamesConstructors row → AllByRecursion RowNamesConstructors rest → AllByRecursion RowNamesConstructors ((if b then row ∷ [] else []) ++ rest)
  row_if true row rest h k = (h, k)
  row_if false row rest h k = k

  clause_named : (scope : Scope) (c : Alternative Span) (rest : List PatternRow) → AllByRecursion RowNamesConstructors rest → AllByRecursion RowNamesConstructors (pattern_row known (bound_clause tops scope c) ++ rest)
  clause_named scope (alternative a pats side wheres) rest h =
      let right : RightSide Bound = bound_side tops (inside_group wheres (inside_row pats scope)) side in
      row_if (has_body right) (row_with known (bound_row tops scope pats) right) rest (named_row scope pats) h

  rows_named : (scope : Scope) (cs : Alternatives Span) → AllByRecursion RowNamesConstructors (pattern_rows known (clauses_of (bound_clauses tops scope cs)))
  rows_named scope no_alternatives = tt
  rows_named scope (more_alternatives c cs) = clause_named scope c (pattern_rows known (clauses_of (bound_clauses tops scope cs))) (rows_named scope cs)

  clauses_named : (scope : Scope) (cs : Alternatives Span) → AllNameConstructors (clauses_rows known (clauses_of (bound_clauses tops scope cs)))
  clauses_named scope no_alternatives = tt
  clauses_named scope (more_alternatives c cs) = (rows_named scope (more_alternatives c cs), tt)

  -- the one row of a pattern binding, if it has a body
  only_row : (b : Bool) (row : PatternRow) → RowNamesConstructors row → AllByRecursion RowNamesConstructors (if b then row ∷ [] else [])
  only_row true row h = (h, tt)
  only_row false row h = tt

  abbrev Named : List (Node Bound) → Type 0
  Named ns = AllByRecursion (λ n. AllNameConstructors (node_rows known n)) ns

  both : (ns ms : List (Node Bound)) → Named ns → Named ms → Named (ns ++ ms)
  both ns ms h k = all_behind (λ n. AllNameConstructors (node_rows known n)) ns ms h k

  -- patterns have no rows
  mutual
    in_pattern : (p : Pattern Bound) → Named (pattern_nodes p)
    in_pattern (wildcard a) = (tt, tt)
    in_pattern (variable_pattern a x) = (tt, tt)
    in_pattern (constructor_pattern a c parts) = (tt, in_parts parts)
    in_pattern (tuple_pattern a parts) = (tt, in_parts parts)

    in_parts : (ps : Patterns Bound) → Named (parts_nodes ps)
    in_parts no_patterns = tt
    in_parts (more_patterns p ps) = both (pattern_nodes p) (parts_nodes ps) (in_pattern p) (in_parts ps)

  in_row : (pats : List (Pattern Bound)) → Named (row_nodes pats)
  in_row [] = tt
  in_row (p ∷ ps) = both (pattern_nodes p) (row_nodes ps) (in_pattern p) (in_row ps)

  mutual
    in_expression : (scope : Scope) (e : Expression Span) → Named (expression_nodes (bound_expression tops scope e))
    in_expression scope (variable a x) = (tt, tt)
    in_expression scope (constructor a c) = (tt, tt)
    in_expression scope (application a head parts) = (tt, both _ _ (in_expression scope head) (in_expressions scope parts))
    in_expression scope (tuple a parts) = (tt, in_expressions scope parts)
    in_expression scope (chain a operands operators) = (tt, both _ _ (in_expressions scope operands) (in_expressions scope operators))
    in_expression scope (lambda a pats body) = (((named_row scope pats, tt), tt), both _ _ (in_row (bound_row tops scope pats)) (in_expression (inside_row pats scope) body))
    in_expression scope (let_in a group body) =
        (tt, (tt, both _ _ (in_group (group_names group) (inside_group group scope) scope group) (in_expression (inside_group group scope) body)))
    in_expression scope (if_then_else a test first second) = (tt, both _ _ (in_expression scope test) (both _ _ (in_expression scope first) (in_expression scope second)))
    in_expression scope (case_of a scrutinee rows) = ((rows_named scope rows, tt), both _ _ (in_expression scope scrutinee) (in_clauses scope rows))
    in_expression scope (do_block a steps) = (tt, in_statements scope steps)

    in_expressions : (scope : Scope) (es : Expressions Span) → Named (expressions_nodes (bound_expressions tops scope es))
    in_expressions scope no_expressions = tt
    in_expressions scope (more_expressions e es) = both _ _ (in_expression scope e) (in_expressions scope es)

    in_clause : (scope : Scope) (c : Alternative Span) → Named (clause_nodes (bound_clause tops scope c))
    in_clause scope (alternative a pats side wheres) = (
      tt,
      both _ _ (in_row (bound_row tops scope pats))
          (both _ _ (in_side (inside_group wheres (inside_row pats scope)) side) (tt, in_group (group_names wheres) (inside_group wheres (inside_row pats scope)) (inside_row pats scope) wheres)),
    )

    in_clauses : (scope : Scope) (cs : Alternatives Span) → Named (clauses_nodes (bound_clauses tops scope cs))
    in_clauses scope no_alternatives = tt
    in_clauses scope (more_alternatives c cs) = both _ _ (in_clause scope c) (in_clauses scope cs)

    in_side : (scope : Scope) (side : RightSide Span) → Named (side_nodes (bound_side tops scope side))
    in_side scope (plain_side body) = in_expression scope body
    in_side scope (guarded_side bodies) = in_bodies scope bodies

    in_body : (scope : Scope) (b : GuardedBody Span) → Named (body_nodes (bound_body tops scope b))
    in_body scope (guarded_body test body) = both _ _ (in_expression scope test) (in_expression scope body)

    in_bodies : (scope : Scope) (bs : GuardedBodies Span) → Named (bodies_nodes (bound_bodies tops scope bs))
    in_bodies scope no_bodies = tt
    in_bodies scope (more_bodies b bs) = both _ _ (in_body scope b) (in_bodies scope bs)

    in_binding : (names : List Bytes) (scope before : Scope) (b : LocalBinding Span) → Named (binding_nodes (bound_binding tops names scope before b))
    in_binding names scope before (local_signature a x type) = (tt, tt)
    in_binding names scope before (local_function a x clauses) = (clauses_named scope clauses, in_clauses scope clauses)
    in_binding names scope before (local_pattern a (alternative b pats side wheres)) =
        let right : RightSide Bound = bound_side tops (inside_group wheres scope) side in (
          (only_row (has_body right) (row_with known (bound_row tops before pats) right) (named_row before pats), tt),
          (tt, both _ _ (in_row (bound_row tops before pats)) (both _ _ (in_side (inside_group wheres scope) side) (tt, in_group (group_names wheres) (inside_group wheres scope) scope wheres))),
        )

    in_group : (names : List Bytes) (scope before : Scope) (bs : LocalBindings Span) → Named (group_nodes (bound_group tops names scope before bs))
    in_group names scope before no_bindings = tt
    in_group names scope before (more_bindings b bs) = both _ _ (in_binding names scope before b) (in_group names scope (entered (names_of (binding_variables b)) before) bs)

    in_statement : (scope : Scope) (s : Statement Span) → Named (statement_nodes (bound_statement tops scope s))
    in_statement scope (bind_statement a p e) = ((((named_pattern scope p, tt), tt), tt), both _ _ (in_pattern (bound_pattern tops scope p)) (in_expression scope e))
    in_statement scope (let_statement a group) = (tt, (tt, in_group (group_names group) (inside_group group scope) scope group))
    in_statement scope (run_statement a e) = (tt, in_expression scope e)

    in_statements : (scope : Scope) (ss : Statements Span) → Named (statements_nodes (bound_statements tops scope ss))
    in_statements scope no_statements = tt
    in_statements scope (more_statements s ss) = both _ _ (in_statement scope s) (in_statements (inside_statement s scope) ss)

  -- == Declarations ==

  of_nodes : (ns : List (Node Bound)) → Named ns → AllNameConstructors (flat_map (node_rows known) ns)
  of_nodes [] h = tt
  of_nodes (n ∷ ns) h = all_behind (AllByRecursion RowNamesConstructors) (node_rows known n) (flat_map (node_rows known) ns) h.0 (of_nodes ns h.1)

  top_rows : (cs : List (Alternative Span)) → AllByRecursion RowNamesConstructors (pattern_rows known (map (bound_clause tops []) cs))
  top_rows [] = tt
  top_rows (c ∷ cs) = clause_named [] c (pattern_rows known (map (bound_clause tops []) cs)) (top_rows cs)

  top_clauses : (cs : List (Alternative Span)) → AllNameConstructors (clauses_rows known (map (bound_clause tops []) cs))
  top_clauses [] = tt
  top_clauses (c ∷ cs) = (top_rows (c ∷ cs), tt)

  top_nodes : (cs : List (Alternative Span)) → Named (flat_map clause_nodes (map (bound_clause tops []) cs))
  top_nodes [] = tt
  top_nodes (c ∷ cs) = both _ _ (in_clause [] c) (top_nodes cs)

  named_declaration : (n : ℕ) (d : Declaration Span) → AllNameConstructors (declaration_rows known (bound_declaration tops n d))
  named_declaration n (import_declaration a m) = tt
  named_declaration n (data_declaration a x params constructors) = tt
  named_declaration n (fixity_declaration a side strength names) = tt
  named_declaration n (signature_declaration a names type) = tt
  named_declaration n (function_declaration a x clauses) =
      all_behind (AllByRecursion RowNamesConstructors) (clauses_rows known (map (bound_clause tops []) clauses)) (flat_map (node_rows known) (flat_map clause_nodes (map (bound_clause tops []) clauses)))
      (top_clauses clauses) (of_nodes (flat_map clause_nodes (map (bound_clause tops []) clauses)) (top_nodes clauses))

  named_declarations : (n : ℕ) (ds : List (Declaration Span)) → AllNameConstructors (flat_map (declaration_rows known) (bound_declarations tops n ds))
  named_declarations n [] = tt
  named_declarations n (d ∷ ds) =
      all_behind (AllByRecursion RowNamesConstructors) (declaration_rows known (bound_declaration tops n d)) (flat_map (declaration_rows known) (bound_declarations tops (suc n) ds)) (named_declaration n d) (named_declarations (suc n) ds)

pub bound_names : (program : PlainProgram Span) → AllNameConstructors (rows_of (bound_program program))
bound_names program =
    named_declarations (tops_of program.declarations) (known_of (bound_program program).declarations) (λ c. found_may c (declared_by declared_constructors 0 program.declarations) (all_may 0 program.declarations)) 0 program.declarations
