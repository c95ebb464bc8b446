-- Lists as the parts of a tree: what is bound of the parts is what is bound of each item.
use Rattle.std.proofs.Common.{◌≡◌, ℕ, ◌+◌, ◌≤◌, List, [], ◌∷◌, ◌++◌, length, map, refl, ap, ◌∙◌, arith}
use Rattle.rw_base.specs.declared.place.Span.{Span}
use Rattle.rw_tree.specs.Patterns.{Pattern, more_patterns, pattern_parts}
use Rattle.rw_tree.specs.Trees.{Expression, more_expressions, expression_parts, Alternative, more_alternatives, alternative_parts, GuardedBody, more_bodies, body_parts, Statement, bind_statement, let_statement, run_statement, more_statements, statement_parts}
use Rattle.rw_scope_rules.specs.Bindings.{Tops, Scope, pattern_variables, parts_variables, row_variables, names_of, inside_statement, bound_expression, bound_expressions, bound_clause, bound_clauses, bound_body, bound_bodies, bound_statement, bound_statements, group_names}
use Rattle.rw_scope_binding.specs.Stack.{lowest}
use Rattle.rw_scope_binding.specs.Numbered.{numbered_pattern, numbered_parts, numbered_row, bound_steps, after_steps}
use Rattle.rw_scope_binding.proofs.Stacks.{length-entered, lowest-all, lowest-under}

pub parts_variables-listed : {X : Type 0} (ps : List (Pattern X)) → parts_variables (pattern_parts ps) ≡ row_variables ps
parts_variables-listed [] = refl
parts_variables-listed (p ∷ ps) = ap (λ v. pattern_variables p ++ v) (parts_variables-listed ps)

module _ (tops : Tops) where
  pub numbered_parts-listed : (n : ℕ) (ps : List (Pattern Span)) → numbered_parts tops n (pattern_parts ps) ≡ pattern_parts (numbered_row tops n ps)
  numbered_parts-listed n [] = refl
  numbered_parts-listed n (p ∷ ps) = ap (more_patterns (numbered_pattern tops n p)) (numbered_parts-listed (n + length (pattern_variables p)) ps)

  module _ (scope : Scope) where
    pub bound_expressions-listed : (xs : List (Expression Span)) → bound_expressions tops scope (expression_parts xs) ≡ expression_parts (map (bound_expression tops scope) xs)
    bound_expressions-listed [] = refl
    bound_expressions-listed (x ∷ xs) = ap (more_expressions (bound_expression tops scope x)) (bound_expressions-listed xs)

    pub bound_clauses-listed : (cs : List (Alternative Span)) → bound_clauses tops scope (alternative_parts cs) ≡ alternative_parts (map (bound_clause tops scope) cs)
    bound_clauses-listed [] = refl
    bound_clauses-listed (c ∷ cs) = ap (more_alternatives (bound_clause tops scope c)) (bound_clauses-listed cs)

    pub bound_bodies-listed : (bs : List (GuardedBody Span)) → bound_bodies tops scope (body_parts bs) ≡ body_parts (map (bound_body tops scope) bs)
    bound_bodies-listed [] = refl
    bound_bodies-listed (b ∷ bs) = ap (more_bodies (bound_body tops scope b)) (bound_bodies-listed bs)

  pub bound_statements-listed : (scope : Scope) (ss : List (Statement Span)) → bound_statements tops scope (statement_parts ss) ≡ statement_parts (bound_steps tops scope ss)
  bound_statements-listed scope [] = refl
  bound_statements-listed scope (s ∷ ss) = ap (more_statements (bound_statement tops scope s)) (bound_statements-listed (inside_statement s scope) ss)

-- a statement leaves the outer names as they are
inside-lowest : (n : ℕ) (s : Statement Span) (scope : Scope) → n ≤ length scope → (lowest n (inside_statement s scope) ≡ lowest n scope) × (n ≤ length (inside_statement s scope))
inside-lowest n (bind_statement a p e) scope h =
    (lowest-under n (names_of (pattern_variables p)) scope h, omega (arith, length-entered (names_of (pattern_variables p)) scope))
inside-lowest n (let_statement a group) scope h = (lowest-under n (group_names group) scope h, omega (arith, length-entered (group_names group) scope))
inside-lowest n (run_statement a e) scope h = (refl, h)

lowest-after : (n : ℕ) (ss : List (Statement Span)) (scope : Scope) → n ≤ length scope → lowest n (after_steps ss scope) ≡ lowest n scope
lowest-after n [] scope h = refl
lowest-after n (s ∷ ss) scope h = let i = inside-lowest n s scope h in lowest-after n ss (inside_statement s scope) i.1 ∙ i.0

pub lowest-after_steps : (ss : List (Statement Span)) (scope : Scope) → lowest (length scope) (after_steps ss scope) ≡ scope
lowest-after_steps ss scope = lowest-after (length scope) ss scope (omega arith) ∙ lowest-all (length scope) scope (omega arith)
