-- Lists of trees, one after the other, and as the parts of a tree.
use Rattle.std.proofs.Common.{◌∙◌, ◌+◌, ◌++◌, length, map, drop, refl, sym, ap}
use Rattle.rw_tree.specs.Views.{itself}
use Rattle.rw_tree.specs.Trees.{alternative_of, alternative_parts, binding_parts, body_parts, expression, expression_parts, guarded, local_binding, statement, statement_parts}
use Rattle.rw_types_equations.specs.Seen.{seen_world}
use Rattle.rw_types_numbering.specs.Slots.{expression_slots, clause_slots, body_slots, binding_slots, statement_slots}
use Rattle.rw_types_numbering.specs.Numbering.{numbered_expression, numbered_clause, numbered_body, numbered_binding, numbered_statement}
use Rattle.rw_types_numbering.specs.Each.{is_nil}
use Rattle.rw_types_numbering.proofs.Each.{each_next, each_done, kinds_next, kinds_done, last_is}
use Rattle.rw_types_numbering.proofs.Each.{expressions_each, expressions_slots_each, all_clauses_each, all_clauses_slots_each, clauses_each, clauses_slots_each, bodies_each, bodies_slots_each, group_each, group_slots_each, statements_each, statements_slots_each}
use Rattle.rw_types_numbering.proofs.Arms.{pattern_tree, pattern_kinds}
use Rattle.rw_types_numbering.proofs.+numbering.Goals as goal

pub expr::number_exprs-loop-tree-preserved : goal.expr::number_exprs-loop-tree-preserved
expr::number_exprs-loop-tree-preserved t c = record {
  trees = each_next (expression itself) (expression itself) (λ b z. expression_slots (seen_world c.args.world.now) z) (λ b m z. numbered_expression (seen_world c.args.world.now) m z) c.args.trees.now c.loop-tree.tree-index c.tree-item.result c.loop-tree.made _ c.in_ok-number_expr.field-0 c.loop-tree.kinds _ (is_nil (map (expression itself) (drop (c.loop-tree.tree-index + 1) c.args.trees.now))) _
      c.loop-tree-test.true c.tree-item.is refl c.in_ok-push.ensures.ok c.in_ok-number_expr.ensures.tree c.in_ok-number_expr.ensures.kinds c.loop-tree.invariant.trees;
  kinds = kinds_next (expression itself) (λ b z. expression_slots (seen_world c.args.world.now) z) c.args.trees.now c.loop-tree.tree-index c.tree-item.result c.loop-tree.kinds _ (is_nil (map (expression itself) (drop (c.loop-tree.tree-index + 1) c.args.trees.now))) _
      c.loop-tree-test.true c.tree-item.is refl c.in_ok-number_expr.ensures.kinds c.loop-tree.invariant.kinds;
}

pub expr::number_exprs-returns-clause-trees : goal.expr::number_exprs-returns-clause-trees
expr::number_exprs-returns-clause-trees t c =
    ap expression_parts (each_done (expression itself) (expression itself) (λ b z. expression_slots (seen_world c.args.world.now) z) (λ b m z. numbered_expression (seen_world c.args.world.now) m z) c.args.trees.now c.loop-tree.tree-index c.loop-tree.made (length c.loop-tree.kinds) _ c.loop-tree-test.false c.loop-tree.invariant.trees)
    ∙ expressions_each (seen_world c.args.world.now) (length c.args.kinds.now) (map (expression itself) c.args.trees.now)

pub expr::number_exprs-returns-clause-kinds : goal.expr::number_exprs-returns-clause-kinds
expr::number_exprs-returns-clause-kinds t c =
    kinds_done (expression itself) (λ b z. expression_slots (seen_world c.args.world.now) z) c.args.trees.now c.loop-tree.tree-index c.loop-tree.kinds _ c.loop-tree-test.false c.loop-tree.invariant.kinds
    ∙ ap (λ z. c.args.kinds.now ++ z) (sym (expressions_slots_each (seen_world c.args.world.now) (map (expression itself) c.args.trees.now)))

pub clause::number_clauses-loop-tree-preserved : goal.clause::number_clauses-loop-tree-preserved
clause::number_clauses-loop-tree-preserved t c = record {
  trees = each_next (alternative_of itself) (alternative_of itself) (λ b z. clause_slots (seen_world c.args.world.now) z) (λ b m z. numbered_clause (seen_world c.args.world.now) m z) c.args.trees.now c.loop-tree.tree-index c.tree-item.result c.loop-tree.made _ c.in_ok-number_clause.field-0 c.loop-tree.kinds _ (is_nil (map (alternative_of itself) (drop (c.loop-tree.tree-index + 1) c.args.trees.now))) _
      c.loop-tree-test.true c.tree-item.is refl c.in_ok-push.ensures.ok c.in_ok-number_clause.ensures.tree c.in_ok-number_clause.ensures.kinds c.loop-tree.invariant.trees;
  kinds = kinds_next (alternative_of itself) (λ b z. clause_slots (seen_world c.args.world.now) z) c.args.trees.now c.loop-tree.tree-index c.tree-item.result c.loop-tree.kinds _ (is_nil (map (alternative_of itself) (drop (c.loop-tree.tree-index + 1) c.args.trees.now))) _
      c.loop-tree-test.true c.tree-item.is refl c.in_ok-number_clause.ensures.kinds c.loop-tree.invariant.kinds;
}

pub clause::number_clauses-returns-clause-trees : goal.clause::number_clauses-returns-clause-trees
clause::number_clauses-returns-clause-trees t c =
    each_done (alternative_of itself) (alternative_of itself) (λ b z. clause_slots (seen_world c.args.world.now) z) (λ b m z. numbered_clause (seen_world c.args.world.now) m z) c.args.trees.now c.loop-tree.tree-index c.loop-tree.made (length c.loop-tree.kinds) _ c.loop-tree-test.false c.loop-tree.invariant.trees
    ∙ all_clauses_each (seen_world c.args.world.now) (length c.args.kinds.now) (map (alternative_of itself) c.args.trees.now)

pub clause::number_clauses-returns-clause-parts : goal.clause::number_clauses-returns-clause-parts
clause::number_clauses-returns-clause-parts t c =
    ap alternative_parts (each_done (alternative_of itself) (alternative_of itself) (λ b z. clause_slots (seen_world c.args.world.now) z) (λ b m z. numbered_clause (seen_world c.args.world.now) m z) c.args.trees.now c.loop-tree.tree-index c.loop-tree.made (length c.loop-tree.kinds) _ c.loop-tree-test.false c.loop-tree.invariant.trees)
    ∙ clauses_each (seen_world c.args.world.now) (length c.args.kinds.now) (map (alternative_of itself) c.args.trees.now)

pub clause::number_clauses-returns-clause-kinds : goal.clause::number_clauses-returns-clause-kinds
clause::number_clauses-returns-clause-kinds t c =
    kinds_done (alternative_of itself) (λ b z. clause_slots (seen_world c.args.world.now) z) c.args.trees.now c.loop-tree.tree-index c.loop-tree.kinds _ c.loop-tree-test.false c.loop-tree.invariant.kinds
    ∙ ap (λ z. c.args.kinds.now ++ z) (sym (all_clauses_slots_each (seen_world c.args.world.now) (map (alternative_of itself) c.args.trees.now)))

pub clause::number_clauses-returns-clause-parts_kinds : goal.clause::number_clauses-returns-clause-parts_kinds
clause::number_clauses-returns-clause-parts_kinds t c =
    kinds_done (alternative_of itself) (λ b z. clause_slots (seen_world c.args.world.now) z) c.args.trees.now c.loop-tree.tree-index c.loop-tree.kinds _ c.loop-tree-test.false c.loop-tree.invariant.kinds
    ∙ ap (λ z. c.args.kinds.now ++ z) (sym (clauses_slots_each (seen_world c.args.world.now) (map (alternative_of itself) c.args.trees.now)))

pub clause::number_guards-loop-tree-preserved : goal.clause::number_guards-loop-tree-preserved
clause::number_guards-loop-tree-preserved t c = record {
  trees = each_next (guarded itself) (guarded itself) (λ b z. body_slots (seen_world c.args.world.now) z) (λ b m z. numbered_body (seen_world c.args.world.now) m z) c.args.trees.now c.loop-tree.tree-index c.tree-item.result c.loop-tree.made _ c.in_ok-number_guard.field-0 c.loop-tree.kinds _ (is_nil (map (guarded itself) (drop (c.loop-tree.tree-index + 1) c.args.trees.now))) _
      c.loop-tree-test.true c.tree-item.is refl c.in_ok-push.ensures.ok c.in_ok-number_guard.ensures.tree c.in_ok-number_guard.ensures.kinds c.loop-tree.invariant.trees;
  kinds = kinds_next (guarded itself) (λ b z. body_slots (seen_world c.args.world.now) z) c.args.trees.now c.loop-tree.tree-index c.tree-item.result c.loop-tree.kinds _ (is_nil (map (guarded itself) (drop (c.loop-tree.tree-index + 1) c.args.trees.now))) _
      c.loop-tree-test.true c.tree-item.is refl c.in_ok-number_guard.ensures.kinds c.loop-tree.invariant.kinds;
}

pub clause::number_guards-returns-clause-trees : goal.clause::number_guards-returns-clause-trees
clause::number_guards-returns-clause-trees t c =
    ap body_parts (each_done (guarded itself) (guarded itself) (λ b z. body_slots (seen_world c.args.world.now) z) (λ b m z. numbered_body (seen_world c.args.world.now) m z) c.args.trees.now c.loop-tree.tree-index c.loop-tree.made (length c.loop-tree.kinds) _ c.loop-tree-test.false c.loop-tree.invariant.trees)
    ∙ bodies_each (seen_world c.args.world.now) (length c.args.kinds.now) (map (guarded itself) c.args.trees.now)

pub clause::number_guards-returns-clause-kinds : goal.clause::number_guards-returns-clause-kinds
clause::number_guards-returns-clause-kinds t c =
    kinds_done (guarded itself) (λ b z. body_slots (seen_world c.args.world.now) z) c.args.trees.now c.loop-tree.tree-index c.loop-tree.kinds _ c.loop-tree-test.false c.loop-tree.invariant.kinds
    ∙ ap (λ z. c.args.kinds.now ++ z) (sym (bodies_slots_each (seen_world c.args.world.now) (map (guarded itself) c.args.trees.now)))

pub group::number_group-loop-tree-preserved : goal.group::number_group-loop-tree-preserved
group::number_group-loop-tree-preserved t c = record {
  trees = each_next (local_binding itself) (local_binding itself) (λ b z. binding_slots (seen_world c.args.world.now) z) (λ b m z. numbered_binding (seen_world c.args.world.now) m z) c.args.trees.now c.loop-tree.tree-index c.tree-item.result c.loop-tree.made _ c.in_ok-number_local.field-0 c.loop-tree.kinds _ (is_nil (map (local_binding itself) (drop (c.loop-tree.tree-index + 1) c.args.trees.now))) _
      c.loop-tree-test.true c.tree-item.is refl c.in_ok-push.ensures.ok c.in_ok-number_local.ensures.tree c.in_ok-number_local.ensures.kinds c.loop-tree.invariant.trees;
  kinds = kinds_next (local_binding itself) (λ b z. binding_slots (seen_world c.args.world.now) z) c.args.trees.now c.loop-tree.tree-index c.tree-item.result c.loop-tree.kinds _ (is_nil (map (local_binding itself) (drop (c.loop-tree.tree-index + 1) c.args.trees.now))) _
      c.loop-tree-test.true c.tree-item.is refl c.in_ok-number_local.ensures.kinds c.loop-tree.invariant.kinds;
}

pub group::number_group-returns-clause-trees : goal.group::number_group-returns-clause-trees
group::number_group-returns-clause-trees t c =
    ap binding_parts (each_done (local_binding itself) (local_binding itself) (λ b z. binding_slots (seen_world c.args.world.now) z) (λ b m z. numbered_binding (seen_world c.args.world.now) m z) c.args.trees.now c.loop-tree.tree-index c.loop-tree.made (length c.loop-tree.kinds) _ c.loop-tree-test.false c.loop-tree.invariant.trees)
    ∙ group_each (seen_world c.args.world.now) (length c.args.kinds.now) (map (local_binding itself) c.args.trees.now)

pub group::number_group-returns-clause-kinds : goal.group::number_group-returns-clause-kinds
group::number_group-returns-clause-kinds t c =
    kinds_done (local_binding itself) (λ b z. binding_slots (seen_world c.args.world.now) z) c.args.trees.now c.loop-tree.tree-index c.loop-tree.kinds _ c.loop-tree-test.false c.loop-tree.invariant.kinds
    ∙ ap (λ z. c.args.kinds.now ++ z) (sym (group_slots_each (seen_world c.args.world.now) (map (local_binding itself) c.args.trees.now)))

pub statement::number_statements-loop-i-preserved : goal.statement::number_statements-loop-i-preserved
statement::number_statements-loop-i-preserved t c = record {
  trees = each_next (statement itself) (statement itself) (λ b z. statement_slots (seen_world c.args.world.now) b z) (λ b m z. numbered_statement (seen_world c.args.world.now) b m z) c.args.trees.now c.loop-i.i c.index-trees-i.result c.loop-i.made _ c.in_ok-number_statement.field-0 c.loop-i.kinds _ _ _
      c.loop-i-test.true c.index-trees-i.is (last_is (statement itself) c.args.trees.now c.loop-i.i c.loop-i-test.true) c.in_ok-push.ensures.ok c.in_ok-number_statement.ensures.tree c.in_ok-number_statement.ensures.kinds c.loop-i.invariant.trees;
  kinds = kinds_next (statement itself) (λ b z. statement_slots (seen_world c.args.world.now) b z) c.args.trees.now c.loop-i.i c.index-trees-i.result c.loop-i.kinds _ _ _
      c.loop-i-test.true c.index-trees-i.is (last_is (statement itself) c.args.trees.now c.loop-i.i c.loop-i-test.true) c.in_ok-number_statement.ensures.kinds c.loop-i.invariant.kinds;
}

pub statement::number_statements-returns-clause-trees : goal.statement::number_statements-returns-clause-trees
statement::number_statements-returns-clause-trees t c =
    ap statement_parts (each_done (statement itself) (statement itself) (λ b z. statement_slots (seen_world c.args.world.now) b z) (λ b m z. numbered_statement (seen_world c.args.world.now) b m z) c.args.trees.now c.loop-i.i c.loop-i.made (length c.loop-i.kinds) _ c.loop-i-test.false c.loop-i.invariant.trees)
    ∙ statements_each (seen_world c.args.world.now) (length c.args.kinds.now) (map (statement itself) c.args.trees.now)

pub statement::number_statements-returns-clause-kinds : goal.statement::number_statements-returns-clause-kinds
statement::number_statements-returns-clause-kinds t c =
    kinds_done (statement itself) (λ b z. statement_slots (seen_world c.args.world.now) b z) c.args.trees.now c.loop-i.i c.loop-i.kinds _ c.loop-i-test.false c.loop-i.invariant.kinds
    ∙ ap (λ z. c.args.kinds.now ++ z) (sym (statements_slots_each (seen_world c.args.world.now) (map (statement itself) c.args.trees.now)))

pub group::number_local-returns-in_ok-clause-in-Pattern-clause-tree : goal.group::number_local-returns-in_ok-clause-in-Pattern-clause-tree
group::number_local-returns-in_ok-clause-in-Pattern-clause-tree t c =
    pattern_tree (seen_world c.args.world.now) c.args.kinds.now _ c.args.tree.now c.in-Pattern.at c.in-Pattern.clause c.in_ok-at-in-Pattern.at c.in_ok-clause-in-Pattern.clause
    c.in-Pattern.is c.in_ok-at-in-Pattern.ensures.label c.in_ok-at-in-Pattern.ensures.kinds c.in_ok-clause-in-Pattern.ensures.tree

pub group::number_local-returns-in_ok-clause-in-Pattern-clause-kinds : goal.group::number_local-returns-in_ok-clause-in-Pattern-clause-kinds
group::number_local-returns-in_ok-clause-in-Pattern-clause-kinds t c =
    pattern_kinds (seen_world c.args.world.now) c.args.kinds.now _ _ c.args.tree.now c.in-Pattern.at c.in-Pattern.clause
    c.in-Pattern.is c.in_ok-at-in-Pattern.ensures.kinds c.in_ok-clause-in-Pattern.ensures.kinds
