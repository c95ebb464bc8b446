-- Lists of what was bound, as the parts of a tree, and clauses from their parts.
use Rattle.std.proofs.Common.{◌≡◌, ◌∙◌, map, refl, sym, ap, rules, arith}
use Rattle.std.proofs.lemmas.Grind.{common_steps}
use Rattle.rw_tree.specs.Views.{itself}
use Rattle.rw_tree.specs.Trees.{alternative_of, alternative_parts, binding_parts, body_parts, expression, expression_parts, guarded, local_binding, statement, statement_parts}
use Rattle.rw_scope_rules.specs.Bindings.{bound_body, bound_clause, bound_expression, inside_group}
use Rattle.rw_scope_binding.specs.Numbered.{known, bound_steps, numbered_bindings}
use Rattle.rw_scope_binding.proofs.Listed.{bound_expressions-listed, bound_clauses-listed, bound_bodies-listed, bound_statements-listed}
use Rattle.rw_scope_binding.proofs.Numbers.{group-bound}
use Rattle.rw_scope_binding.proofs.Built.{built_clause}
use Rattle.rw_scope_binding.proofs.+binding.Goals as goal

pub expr::bind_exprs-returns-clause-trees : goal.expr::bind_exprs-returns-clause-trees
expr::bind_exprs-returns-clause-trees t c =
    let made : map (expression itself) c.loop-expr.bound ≡ map (bound_expression (known c.args.tops.now) c.args.scope.now) (map (expression itself) c.args.exprs.now) = first_of (search rules, grind (arith, common_steps)) in
    ap expression_parts made ∙ sym (bound_expressions-listed (known c.args.tops.now) c.args.scope.now (map (expression itself) c.args.exprs.now))

pub expr::bind_stmts-returns-clause-trees : goal.expr::bind_stmts-returns-clause-trees
expr::bind_stmts-returns-clause-trees t c =
    let made : map (statement itself) c.loop-stmt.bound ≡ bound_steps (known c.args.tops.now) c.args.scope.now (map (statement itself) c.args.stmts.now) = first_of (search rules, grind (arith, common_steps)) in
    ap statement_parts made ∙ sym (bound_statements-listed (known c.args.tops.now) c.args.scope.now (map (statement itself) c.args.stmts.now))

pub clause::bind_clauses-returns-clause-parts : goal.clause::bind_clauses-returns-clause-parts
clause::bind_clauses-returns-clause-parts t c =
    let made : map (alternative_of itself) c.loop-clause.bound ≡ map (bound_clause (known c.args.tops.now) c.args.scope.now) (map (alternative_of itself) c.args.clauses.now) = first_of (search rules, grind (arith, common_steps)) in
    ap alternative_parts made ∙ sym (bound_clauses-listed (known c.args.tops.now) c.args.scope.now (map (alternative_of itself) c.args.clauses.now))

pub clause::bind_guards-returns-clause-trees : goal.clause::bind_guards-returns-clause-trees
clause::bind_guards-returns-clause-trees t c =
    let made : map (guarded itself) c.loop-guard.bound ≡ map (bound_body (known c.args.tops.now) c.args.scope.now) (map (guarded itself) c.args.guards.now) = first_of (search rules, grind (arith, common_steps)) in
    ap body_parts made ∙ sym (bound_bodies-listed (known c.args.tops.now) c.args.scope.now (map (guarded itself) c.args.guards.now))

pub group::bind_group-returns-clause-trees : goal.group::bind_group-returns-clause-trees
group::bind_group-returns-clause-trees t c =
    let made : map (local_binding itself) c.loop-local.bound ≡ numbered_bindings (known c.args.tops.now) c.depth-outer.result (inside_group (binding_parts (map (local_binding itself) c.args.locals.now)) c.args.scope.now) c.depth-outer.result (map (local_binding itself) c.args.locals.now) = first_of (search rules, grind (arith, common_steps)) in
    ap binding_parts made ∙ group-bound (known c.args.tops.now) c.depth-outer.result (inside_group (binding_parts (map (local_binding itself) c.args.locals.now)) c.args.scope.now) c.args.scope.now (map (local_binding itself) c.args.locals.now) refl c.depth-outer.ensures

pub clause::bind_clause-returns-clause-tree : goal.clause::bind_clause-returns-clause-tree
clause::bind_clause-returns-clause-tree t c =
    built_clause (known c.args.tops.now) c.args.scope.now c.args.clause.now _ _ _ _ _ _ _ _ c.as_slice.ensures c.as_slice-2.ensures c.clause_of.ensures
    c.in_ok-pats.ensures.trees c.in_ok-pats.ensures.scope c.in_ok-wheres.ensures.trees c.in_ok-wheres.ensures.scope c.in_ok-rhs.ensures.tree
