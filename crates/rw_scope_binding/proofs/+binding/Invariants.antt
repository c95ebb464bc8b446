-- What the loops over lists of trees keep: what was bound, before what is left to be bound, is the whole.
use Rattle.std.proofs.Common.{◌≡◌, ◌++◌, drop, map}
use Rattle.rw_tree.specs.Views.{itself}
use Rattle.rw_tree.specs.Trees.{alternative_of, binding_parts, expression, guarded, local_binding, statement}
use Rattle.rw_scope_rules.specs.Bindings.{bound_body, bound_clause, bound_expression, inside_group}
use Rattle.rw_scope_binding.specs.Numbered.{known, numbered_bindings, bound_steps, after_steps}
use Rattle.rw_scope_binding.proofs.+binding.Given as goal

abbrev pub invariant-expr::bind_exprs-loop-expr : goal.invariant-expr::bind_exprs-loop-expr
invariant-expr::bind_exprs-loop-expr l = record {
  trees : map (expression itself) l.bound ++ map (bound_expression (known l.tops) l.fn.scope) (map (expression itself) (drop l.expr-index l.exprs)) ≡ map (bound_expression (known l.tops) l.fn.scope) (map (expression itself) l.exprs);
  scope : l.scope ≡ l.fn.scope;
}

abbrev pub invariant-expr::bind_stmts-loop-stmt : goal.invariant-expr::bind_stmts-loop-stmt
invariant-expr::bind_stmts-loop-stmt l = record {
  trees : map (statement itself) l.bound ++ bound_steps (known l.tops) l.scope (map (statement itself) (drop l.stmt-index l.stmts)) ≡ bound_steps (known l.tops) l.fn.scope (map (statement itself) l.stmts);
  scope : after_steps (map (statement itself) (drop l.stmt-index l.stmts)) l.scope ≡ after_steps (map (statement itself) l.stmts) l.fn.scope;
}

abbrev pub invariant-clause::bind_clauses-loop-clause : goal.invariant-clause::bind_clauses-loop-clause
invariant-clause::bind_clauses-loop-clause l = record {
  trees : map (alternative_of itself) l.bound ++ map (bound_clause (known l.tops) l.fn.scope) (map (alternative_of itself) (drop l.clause-index l.clauses)) ≡ map (bound_clause (known l.tops) l.fn.scope) (map (alternative_of itself) l.clauses);
  scope : l.scope ≡ l.fn.scope;
}

abbrev pub invariant-clause::bind_guards-loop-guard : goal.invariant-clause::bind_guards-loop-guard
invariant-clause::bind_guards-loop-guard l = record {
  trees : map (guarded itself) l.bound ++ map (bound_body (known l.tops) l.fn.scope) (map (guarded itself) (drop l.guard-index l.guards)) ≡ map (bound_body (known l.tops) l.fn.scope) (map (guarded itself) l.guards);
  scope : l.scope ≡ l.fn.scope;
}

abbrev pub invariant-group::bind_group-loop-local : goal.invariant-group::bind_group-loop-local
invariant-group::bind_group-loop-local l = record {
  trees : map (local_binding itself) l.bound ++ numbered_bindings (known l.tops) l.outer (inside_group (binding_parts (map (local_binding itself) l.locals)) l.fn.scope) l.number (map (local_binding itself) (drop l.local-index l.locals))
      ≡ numbered_bindings (known l.tops) l.outer (inside_group (binding_parts (map (local_binding itself) l.locals)) l.fn.scope) l.outer (map (local_binding itself) l.locals);
  scope : l.scope ≡ inside_group (binding_parts (map (local_binding itself) l.locals)) l.fn.scope;
}
