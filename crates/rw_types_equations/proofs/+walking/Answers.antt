-- What each kind of tree agrees in, and the loops over lists of trees.
use Rattle.std.proofs.Common.{◌∙◌, [], refl, ap, take}
use Rattle.rw_types_solving.specs.Types.{plain}
use Rattle.rw_types_solving.proofs.Plains.{plain_var}
use Rattle.rw_tree.specs.Types.{written}
use Rattle.rw_types_equations.specs.Seen.{seen_world, seen_types}
use Rattle.rw_types_equations.proofs.Adding.{adds_as, adds_two, walked_start, walked_step, walked_done}
use Rattle.rw_types_equations.proofs.Entering.{entered_none, entered_left, longer_start, longer_step, longer_left}
use Rattle.rw_types_equations.proofs.Closed.{written_stays, bool_stays}
use Rattle.rw_types_equations.proofs.ExprArms as e
use Rattle.rw_types_equations.proofs.ClauseArms as k
use Rattle.rw_types_equations.proofs.Loops as loop
use Rattle.rw_types_equations.proofs.+walking.Goals as goal
use Rattle.rw_types_equations.proofs.+walking.Goals.{statement::add_statements-then-i-trees+in_ok-add_last_statement, statement::add_statements-else-i-trees+in_ok-add_statement}

pub expr::add_expression-returns-in_ok-add_name-in-Var-clause-agrees : goal.expr::add_expression-returns-in_ok-add_name-in-Var-clause-agrees
expr::add_expression-returns-in_ok-add_name-in-Var-clause-agrees t c = adds_as _ _ _ _ c.in_ok-add_name-in-Var.ensures (e.is_variable (seen_world c.args.world.now) c.args.locals.now c.args.tree.now _ _ c.in-Var.is)

pub expr::add_expression-returns-in_ok-add_bound-in-Con-clause-agrees : goal.expr::add_expression-returns-in_ok-add_bound-in-Con-clause-agrees
expr::add_expression-returns-in_ok-add_bound-in-Con-clause-agrees t c = adds_as _ _ _ _ c.in_ok-add_bound-in-Con.ensures (e.is_constructor (seen_world c.args.world.now) c.args.locals.now c.args.tree.now _ _ c.in-Con.is)

pub expr::add_expression-returns-in_ok-never-in-Chain-clause-agrees : goal.expr::add_expression-returns-in_ok-never-in-Chain-clause-agrees
expr::add_expression-returns-in_ok-never-in-Chain-clause-agrees t c = adds_as _ _ _ _ c.in_ok-never-in-Chain.ensures (e.is_chain (seen_world c.args.world.now) c.args.locals.now c.args.tree.now _ _ _ c.in-Chain.is)

pub expr::add_expression-returns-in_ok-add_expressions-in-Apply-clause-agrees : goal.expr::add_expression-returns-in_ok-add_expressions-in-Apply-clause-agrees
expr::add_expression-returns-in_ok-add_expressions-in-Apply-clause-agrees t c = adds_as _ _ _ _ (adds_two _ _ _ _ _ (adds_two _ _ _ _ _ c.in_ok-join_function-in-Apply.ensures c.in_ok-add_expression-in-Apply.ensures.agrees) c.in_ok-add_expressions-in-Apply.ensures.agrees)
    (e.is_application (seen_world c.args.world.now) c.args.locals.now _ c.args.tree.now _ _ _ _ _ _ _ _ c.in-Apply.is c.get-head.ensures c.as_slice-parts.ensures c.in_ok-add_expression-in-Apply.ensures.locals c.number_of.ensures c.in_ok-numbers-in-Apply.ensures c.as_slice.ensures)

pub expr::add_expression-returns-in_ok-add_expressions-in-Tuple-clause-agrees : goal.expr::add_expression-returns-in_ok-add_expressions-in-Tuple-clause-agrees
expr::add_expression-returns-in_ok-add_expressions-in-Tuple-clause-agrees t c = adds_as _ _ _ _ (adds_two _ _ _ _ _ c.in_ok-equate-in-Tuple.ensures c.in_ok-add_expressions-in-Tuple.ensures.agrees)
    (e.is_tuple (seen_world c.args.world.now) c.args.locals.now c.args.tree.now _ _ _ _ _ _ c.in-Tuple.is c.as_slice-parts-in-Tuple.ensures c.in_ok-numbers-in-Tuple.ensures c.as_slice-in-Tuple.ensures c.in_ok-tuple_of-in-Tuple.ensures)

pub expr::add_expression-returns-in_ok-add_expression-in-Lambda-clause-agrees : goal.expr::add_expression-returns-in_ok-add_expression-in-Lambda-clause-agrees
expr::add_expression-returns-in_ok-add_expression-in-Lambda-clause-agrees t c = adds_as _ _ _ _ (adds_two _ _ _ _ _ (adds_two _ _ _ _ _ c.in_ok-join_function-in-Lambda.ensures c.in_ok-add_row-in-Lambda.ensures) c.in_ok-add_expression-in-Lambda.ensures.agrees)
    (e.is_lambda (seen_world c.args.world.now) c.args.locals.now _ c.args.tree.now _ _ _ _ _ _ _ _ c.in-Lambda.is c.as_slice-pats.ensures c.get-body.ensures c.in_ok-enter_row-in-Lambda.ensures c.number_of-in-Lambda.ensures c.in_ok-numbers-in-Lambda.ensures c.as_slice-in-Lambda.ensures)

pub expr::add_expression-returns-in_ok-add_expression-in-Lambda-clause-locals : goal.expr::add_expression-returns-in_ok-add_expression-in-Lambda-clause-locals
expr::add_expression-returns-in_ok-add_expression-in-Lambda-clause-locals t c = entered_left c.args.locals.now _ _ c.depth-outer.result _ c.in_ok-enter_row-in-Lambda.ensures c.depth-outer.ensures (c.leave.ensures ∙ ap (take c.depth-outer.result) c.in_ok-add_expression-in-Lambda.ensures.locals)

pub expr::add_expression-returns-in_ok-add_expression-in-Let-clause-agrees : goal.expr::add_expression-returns-in_ok-add_expression-in-Let-clause-agrees
expr::add_expression-returns-in_ok-add_expression-in-Let-clause-agrees t c = adds_as _ _ _ _ (adds_two _ _ _ _ _ (adds_two _ _ _ _ _ c.in_ok-join-in-Let.ensures c.in_ok-add_group-in-Let.ensures.agrees) c.in_ok-add_expression-in-Let.ensures.agrees)
    (e.is_let (seen_world c.args.world.now) c.args.locals.now _ _ c.args.tree.now _ _ _ _ _ _ c.in-Let.is c.as_slice-group.ensures c.get-body-in-Let.ensures c.in_ok-enter_group-in-Let.ensures c.in_ok-add_group-in-Let.ensures.locals c.number_of-in-Let.ensures)

pub expr::add_expression-returns-in_ok-add_expression-in-Let-clause-locals : goal.expr::add_expression-returns-in_ok-add_expression-in-Let-clause-locals
expr::add_expression-returns-in_ok-add_expression-in-Let-clause-locals t c = entered_left c.args.locals.now _ _ c.depth-outer-in-Let.result _ c.in_ok-enter_group-in-Let.ensures c.depth-outer-in-Let.ensures (c.leave-in-Let.ensures ∙ ap (take c.depth-outer-in-Let.result) (c.in_ok-add_expression-in-Let.ensures.locals ∙ c.in_ok-add_group-in-Let.ensures.locals))

pub expr::add_expression-returns-in_ok-add_expression-in-If-3-clause-agrees : goal.expr::add_expression-returns-in_ok-add_expression-in-If-3-clause-agrees
expr::add_expression-returns-in_ok-add_expression-in-If-3-clause-agrees t c = adds_as _ _ _ _ (adds_two _ _ _ _ _ (adds_two _ _ _ _ _ (adds_two _ _ _ _ _ (adds_two _ _ _ _ _ (adds_two _ _ _ _ _ c.in_ok-equate-in-If.ensures c.in_ok-join-in-If.ensures) c.in_ok-join-in-If-2.ensures) c.in_ok-add_expression-in-If.ensures.agrees) c.in_ok-add_expression-in-If-2.ensures.agrees) c.in_ok-add_expression-in-If-3.ensures.agrees)
    (e.is_if (seen_world c.args.world.now) c.args.locals.now _ _ c.args.tree.now _ _ _ _ _ _ _ _ _ _ _ c.in-If.is c.get-test.ensures c.get-first.ensures c.get-second.ensures c.in_ok-add_expression-in-If.ensures.locals c.in_ok-add_expression-in-If-2.ensures.locals c.number_of-in-If.ensures c.number_of-in-If-2.ensures c.number_of-in-If-3.ensures c.bool_term.ensures (bool_stays (seen_world c.args.world.now)))

pub expr::add_expression-returns-in_ok-add_clauses-in-Case-clause-agrees : goal.expr::add_expression-returns-in_ok-add_clauses-in-Case-clause-agrees
expr::add_expression-returns-in_ok-add_clauses-in-Case-clause-agrees t c = adds_as _ _ _ _ (adds_two _ _ _ _ _ c.in_ok-add_expression-in-Case.ensures.agrees c.in_ok-add_clauses-in-Case.ensures.agrees)
    (e.is_case (seen_world c.args.world.now) c.args.locals.now _ c.args.tree.now _ _ _ _ _ _ _ c.in-Case.is c.get-scrutinee.ensures c.as_slice-in-Case.ensures c.in_ok-add_expression-in-Case.ensures.locals c.number_of-in-Case.ensures (loop.function_is _ _ _ _ _ c.in_ok-type_-in-Case.ensures (plain_var _) (plain_var _)))

pub expr::add_expression-returns-in_ok-add_statements-in-Do-clause-agrees : goal.expr::add_expression-returns-in_ok-add_statements-in-Do-clause-agrees
expr::add_expression-returns-in_ok-add_statements-in-Do-clause-agrees t c = adds_as _ _ _ _ c.in_ok-add_statements-in-Do.ensures.agrees (e.is_do (seen_world c.args.world.now) c.args.locals.now c.args.tree.now _ _ _ c.in-Do.is c.as_slice-in-Do.ensures)

pub clause::add_clause-returns-clause-agrees : goal.clause::add_clause-returns-clause-agrees
clause::add_clause-returns-clause-agrees t c = adds_as _ _ _ _ (adds_two _ _ _ _ _ (adds_two _ _ _ _ _ c.in_ok-add_row.ensures c.in_ok-add_side.ensures.agrees) c.in_ok-add_group.ensures.agrees)
    (k.is_clause (seen_world c.args.world.now) c.args.locals.now _ _ _ c.args.tree.now _ _ _ _ c.as_slice-pats.ensures c.as_slice-wheres.ensures c.in_ok-enter_row.ensures c.in_ok-enter_group.ensures c.in_ok-add_side.ensures.locals c.in_ok-from.ensures c.as_slice.ensures)

pub clause::add_clause-returns-clause-locals : goal.clause::add_clause-returns-clause-locals
clause::add_clause-returns-clause-locals t c = longer_left c.args.locals.now _ _ c.depth-outer.result (longer_step _ _ _ _ (longer_step _ _ _ _ (longer_start c.args.locals.now c.args.locals.now refl) c.in_ok-enter_row.ensures) c.in_ok-enter_group.ensures) c.depth-outer.ensures (c.leave.ensures ∙ ap (take c.depth-outer.result) (c.in_ok-add_group.ensures.locals ∙ c.in_ok-add_side.ensures.locals))

pub clause::add_side-returns-in_ok-add_expression-in-Plain-clause-agrees : goal.clause::add_side-returns-in_ok-add_expression-in-Plain-clause-agrees
clause::add_side-returns-in_ok-add_expression-in-Plain-clause-agrees t c = adds_as _ _ _ _ (adds_two _ _ _ _ _ c.in_ok-join_function-in-Plain.ensures c.in_ok-add_expression-in-Plain.ensures.agrees)
    (k.is_plain_side (seen_world c.args.world.now) c.args.locals.now c.args.tree.now _ _ c.args.from.now c.args.number _ c.in-Plain.is refl c.number_of.ensures)

pub clause::add_side-returns-in_ok-add_bodies-in-Guarded-clause-agrees : goal.clause::add_side-returns-in_ok-add_bodies-in-Guarded-clause-agrees
clause::add_side-returns-in_ok-add_bodies-in-Guarded-clause-agrees t c = adds_as _ _ _ _ c.in_ok-add_bodies-in-Guarded.ensures.agrees (k.is_guarded_side (seen_world c.args.world.now) c.args.locals.now c.args.tree.now _ _ c.args.from.now c.args.number c.in-Guarded.is c.as_slice.ensures)

pub clause::add_body-returns-clause-agrees : goal.clause::add_body-returns-clause-agrees
clause::add_body-returns-clause-agrees t c = adds_as _ _ _ _ (adds_two _ _ _ _ _ (adds_two _ _ _ _ _ (adds_two _ _ _ _ _ c.in_ok-equate.ensures c.in_ok-join_function.ensures) c.in_ok-add_expression.ensures.agrees) c.in_ok-add_expression-2.ensures.agrees)
    (k.is_body (seen_world c.args.world.now) c.args.locals.now _ c.args.tree.now c.args.from.now c.args.number _ _ _ c.in_ok-add_expression.ensures.locals c.number_of.ensures c.number_of-2.ensures c.bool_term.ensures (bool_stays (seen_world c.args.world.now)))

pub group::add_local_binding-returns-in_ok-add_signed-in-Sig-clause-agrees : goal.group::add_local_binding-returns-in_ok-add_signed-in-Sig-clause-agrees
group::add_local_binding-returns-in_ok-add_signed-in-Sig-clause-agrees t c = adds_as _ _ _ _ (adds_two _ _ _ _ _ c.in_ok-equate-in-Sig.ensures c.in_ok-add_signed-in-Sig.ensures)
    (k.is_signature (seen_world c.args.world.now) c.args.locals.now c.args.tree.now _ _ c.in-Sig.written _ _ c.in-Sig.is refl (loop.written_as _ _ _ [] (written c.in-Sig.written) c.in_ok-written_type-in-Sig.ensures (ap seen_types c.as_slice.ensures)) (written_stays (seen_types c.args.world.now.types) (written c.in-Sig.written)))

pub group::add_local_binding-returns-in_ok-add_clauses-in-Fun-clause-agrees : goal.group::add_local_binding-returns-in_ok-add_clauses-in-Fun-clause-agrees
group::add_local_binding-returns-in_ok-add_clauses-in-Fun-clause-agrees t c = adds_as _ _ _ _ c.in_ok-add_clauses-in-Fun.ensures.agrees (k.is_function (seen_world c.args.world.now) c.args.locals.now c.args.tree.now _ _ _ _ _ c.in-Fun.is c.as_slice-in-Fun.ensures (plain_var _))

pub group::add_local_binding-returns-in_ok-add_bound_pattern-in-Pattern-clause-agrees : goal.group::add_local_binding-returns-in_ok-add_bound_pattern-in-Pattern-clause-agrees
group::add_local_binding-returns-in_ok-add_bound_pattern-in-Pattern-clause-agrees t c = adds_as _ _ _ _ c.in_ok-add_bound_pattern-in-Pattern.ensures.agrees (k.is_pattern (seen_world c.args.world.now) c.args.locals.now c.args.tree.now _ _ _ c.in-Pattern.is refl)

pub group::add_bound_pattern-returns-clause-agrees : goal.group::add_bound_pattern-returns-clause-agrees
group::add_bound_pattern-returns-clause-agrees t c = adds_as _ _ _ _ (adds_two _ _ _ _ _ (adds_two _ _ _ _ _ (adds_two _ _ _ _ _ (adds_two _ _ _ _ _ c.in_ok-join.ensures c.in_ok-add_only.ensures) c.in_ok-add_row.ensures) c.in_ok-add_side.ensures.agrees) c.in_ok-add_group.ensures.agrees)
    (k.is_bound_pattern (seen_world c.args.world.now) c.args.locals.now _ _ c.args.tree.now _ _ c.args.number _ _ _ c.as_slice-pats.ensures c.as_slice-wheres.ensures c.in_ok-enter_group.ensures c.in_ok-add_side.ensures.locals c.in_ok-parts.ensures c.as_slice.ensures refl)

pub group::add_bound_pattern-returns-clause-locals : goal.group::add_bound_pattern-returns-clause-locals
group::add_bound_pattern-returns-clause-locals t c = entered_left c.args.locals.now _ _ c.depth-outer.result _ c.in_ok-enter_group.ensures c.depth-outer.ensures (c.leave.ensures ∙ ap (take c.depth-outer.result) (c.in_ok-add_group.ensures.locals ∙ c.in_ok-add_side.ensures.locals))

pub statement::add_last_statement-returns-in_ok-never-in-Bind-clause-agrees : goal.statement::add_last_statement-returns-in_ok-never-in-Bind-clause-agrees
statement::add_last_statement-returns-in_ok-never-in-Bind-clause-agrees t c = adds_as _ _ _ _ c.in_ok-never-in-Bind.ensures (k.is_last_bind (seen_world c.args.world.now) c.args.locals.now c.args.tree.now _ _ _ c.args.block c.in-Bind.is)

pub statement::add_last_statement-returns-in_ok-never-in-Let-clause-agrees : goal.statement::add_last_statement-returns-in_ok-never-in-Let-clause-agrees
statement::add_last_statement-returns-in_ok-never-in-Let-clause-agrees t c = adds_as _ _ _ _ c.in_ok-never-in-Let.ensures (k.is_last_let (seen_world c.args.world.now) c.args.locals.now c.args.tree.now _ _ c.args.block c.in-Let.is)

pub statement::add_last_statement-returns-in_ok-add_expression-in-Run-clause-agrees : goal.statement::add_last_statement-returns-in_ok-add_expression-in-Run-clause-agrees
statement::add_last_statement-returns-in_ok-add_expression-in-Run-clause-agrees t c = adds_as _ _ _ _ (adds_two _ _ _ _ _ c.in_ok-add_last-in-Run.ensures c.in_ok-add_expression-in-Run.ensures.agrees) (k.is_last (seen_world c.args.world.now) c.args.locals.now c.args.tree.now _ _ _ c.args.block _ c.in-Run.is refl c.number_of.ensures)

pub statement::add_statement-returns-in_ok-enter_pattern-in-Bind-clause-agrees : goal.statement::add_statement-returns-in_ok-enter_pattern-in-Bind-clause-agrees
statement::add_statement-returns-in_ok-enter_pattern-in-Bind-clause-agrees t c = adds_as _ _ _ _ (adds_two _ _ _ _ _ (adds_two _ _ _ _ _ c.in_ok-add_bind-in-Bind.ensures c.in_ok-add_pattern-in-Bind.ensures) c.in_ok-add_expression-in-Bind.ensures.agrees)
    (k.is_bind (seen_world c.args.world.now) c.args.locals.now c.args.tree.now _ _ _ _ _ c.args.block _ _ c.in-Bind.is refl refl c.number_of.ensures c.pattern_number.ensures)

pub statement::add_statement-returns-in_ok-enter_pattern-in-Bind-clause-locals : goal.statement::add_statement-returns-in_ok-enter_pattern-in-Bind-clause-locals
statement::add_statement-returns-in_ok-enter_pattern-in-Bind-clause-locals t c = loop.entered_from c.args.locals.now _ _ _ _ c.in_ok-add_expression-in-Bind.ensures.locals c.in_ok-enter_pattern-in-Bind.ensures (k.bind_locals c.args.tree.now _ _ _ _ c.in-Bind.is refl)

pub statement::add_statement-returns-in_ok-add_group-in-Let-clause-agrees : goal.statement::add_statement-returns-in_ok-add_group-in-Let-clause-agrees
statement::add_statement-returns-in_ok-add_group-in-Let-clause-agrees t c = adds_as _ _ _ _ (adds_two _ _ _ _ _ c.in_ok-join-in-Let.ensures c.in_ok-add_group-in-Let.ensures.agrees) (k.is_let_statement (seen_world c.args.world.now) c.args.locals.now _ c.args.tree.now _ _ _ c.args.block c.in-Let.is c.as_slice-group.ensures c.in_ok-enter_group-in-Let.ensures)

pub statement::add_statement-returns-in_ok-add_group-in-Let-clause-locals : goal.statement::add_statement-returns-in_ok-add_group-in-Let-clause-locals
statement::add_statement-returns-in_ok-add_group-in-Let-clause-locals t c = loop.entered_then c.args.locals.now _ _ _ _ c.in_ok-enter_group-in-Let.ensures c.in_ok-add_group-in-Let.ensures.locals (k.let_locals c.args.tree.now _ _ _ c.in-Let.is c.as_slice-group.ensures)

pub statement::add_statement-returns-in_ok-add_expression-in-Run-clause-agrees : goal.statement::add_statement-returns-in_ok-add_expression-in-Run-clause-agrees
statement::add_statement-returns-in_ok-add_expression-in-Run-clause-agrees t c = adds_as _ _ _ _ (adds_two _ _ _ _ _ c.in_ok-add_then-in-Run.ensures c.in_ok-add_expression-in-Run.ensures.agrees) (k.is_then (seen_world c.args.world.now) c.args.locals.now c.args.tree.now _ _ _ c.args.block _ c.in-Run.is refl c.number_of-in-Run.ensures)

pub statement::add_statement-returns-in_ok-add_expression-in-Run-clause-locals : goal.statement::add_statement-returns-in_ok-add_expression-in-Run-clause-locals
statement::add_statement-returns-in_ok-add_expression-in-Run-clause-locals t c = entered_none _ _ _ c.in_ok-add_expression-in-Run.ensures.locals (k.run_locals c.args.tree.now _ _ c.in-Run.is)

pub expr::add_expressions-loop-tree-preserved : goal.expr::add_expressions-loop-tree-preserved
expr::add_expressions-loop-tree-preserved t c = record {
  adds = walked_step _ _ _ _ _ _ _ c.loop-tree.invariant.adds c.in_ok-add_expression.ensures.agrees (loop.expressions_step (seen_world c.args.world.now) c.args.locals.now _ c.args.trees.now c.loop-tree.tree-index c.tree-item.result c.loop-tree.invariant.locals c.loop-tree-test.true c.tree-item.is);
  locals = c.in_ok-add_expression.ensures.locals ∙ c.loop-tree.invariant.locals;
}

pub expr::add_expressions-returns-clause-agrees : goal.expr::add_expressions-returns-clause-agrees
expr::add_expressions-returns-clause-agrees t c = walked_done _ _ _ _ c.loop-tree.invariant.adds (loop.expressions_done (seen_world c.args.world.now) c.args.locals.now c.args.trees.now c.loop-tree.tree-index c.loop-tree-test.false)

pub clause::add_clauses-loop-tree-preserved : goal.clause::add_clauses-loop-tree-preserved
clause::add_clauses-loop-tree-preserved t c = record {
  adds = walked_step _ _ _ _ _ _ _ c.loop-tree.invariant.adds (adds_two _ _ _ _ _ c.in_ok-equate.ensures c.in_ok-add_clause.ensures.agrees) (loop.clauses_step (seen_world c.args.world.now) c.args.locals.now _ (plain c.args.type_.now) _ c.args.trees.now c.loop-tree.tree-index c.tree-item.result c.loop-tree.invariant.locals c.in_ok-copied.ensures c.loop-tree-test.true c.tree-item.is);
  locals = c.in_ok-add_clause.ensures.locals ∙ c.loop-tree.invariant.locals;
}

pub clause::add_clauses-returns-clause-agrees : goal.clause::add_clauses-returns-clause-agrees
clause::add_clauses-returns-clause-agrees t c = walked_done _ _ _ _ c.loop-tree.invariant.adds (loop.clauses_done (seen_world c.args.world.now) c.args.locals.now (plain c.args.type_.now) c.args.trees.now c.loop-tree.tree-index c.loop-tree-test.false)

pub clause::add_bodies-loop-tree-preserved : goal.clause::add_bodies-loop-tree-preserved
clause::add_bodies-loop-tree-preserved t c = record {
  adds = walked_step _ _ _ _ _ _ _ c.loop-tree.invariant.adds c.in_ok-add_body.ensures.agrees (loop.bodies_step (seen_world c.args.world.now) c.args.locals.now _ c.args.from.now c.args.number c.args.trees.now c.loop-tree.tree-index c.tree-item.result c.loop-tree.invariant.locals c.loop-tree-test.true c.tree-item.is);
  locals = c.in_ok-add_body.ensures.locals ∙ c.loop-tree.invariant.locals;
}

pub clause::add_bodies-returns-clause-agrees : goal.clause::add_bodies-returns-clause-agrees
clause::add_bodies-returns-clause-agrees t c = walked_done _ _ _ _ c.loop-tree.invariant.adds (loop.bodies_done (seen_world c.args.world.now) c.args.locals.now c.args.from.now c.args.number c.args.trees.now c.loop-tree.tree-index c.loop-tree-test.false)

pub group::add_group-loop-tree-preserved : goal.group::add_group-loop-tree-preserved
group::add_group-loop-tree-preserved t c = record {
  adds = walked_step _ _ _ _ _ _ _ c.loop-tree.invariant.adds c.in_ok-add_local_binding.ensures.agrees (loop.group_step (seen_world c.args.world.now) c.args.locals.now _ c.args.trees.now c.loop-tree.tree-index c.tree-item.result c.loop-tree.invariant.locals c.loop-tree-test.true c.tree-item.is);
  locals = c.in_ok-add_local_binding.ensures.locals ∙ c.loop-tree.invariant.locals;
}

pub group::add_group-returns-clause-agrees : goal.group::add_group-returns-clause-agrees
group::add_group-returns-clause-agrees t c = walked_done _ _ _ _ c.loop-tree.invariant.adds (loop.group_done (seen_world c.args.world.now) c.args.locals.now c.args.trees.now c.loop-tree.tree-index c.loop-tree-test.false)

pub statement::add_statements-loop-i-init : goal.statement::add_statements-loop-i-init
statement::add_statements-loop-i-init t c = record { adds = walked_start _ _ _ refl; locals = longer_start _ _ refl }

pub statement::add_statements-loop-i-preserved : goal.statement::add_statements-loop-i-preserved
statement::add_statements-loop-i-preserved t c = elim c.if-i-trees.branch [
  | statement::add_statements-then-i-trees+in_ok-add_last_statement w ↦ let r = loop.last_kept (seen_world c.args.world.now) c.args.locals.now c.loop-i.locals _ _ _ _ _ _ _ c.args.block c.args.trees.now c.loop-i.i c.index-trees-i.result c.loop-i.invariant.adds c.loop-i.invariant.locals
      w.in_ok-add_last_statement.ensures.agrees w.in_ok-add_last_statement.ensures.locals w.out-is w.locals-is w.if-i-trees.true c.loop-i-test.true c.index-trees-i.is in record { adds = r.0; locals = r.1 }
  | statement::add_statements-else-i-trees+in_ok-add_statement w ↦ let r = loop.statement_kept (seen_world c.args.world.now) c.args.locals.now c.loop-i.locals _ _ _ _ _ _ _ c.args.block c.args.trees.now c.loop-i.i c.index-trees-i.result c.loop-i.invariant.adds c.loop-i.invariant.locals
      w.in_ok-add_statement.ensures.agrees w.in_ok-add_statement.ensures.locals w.out-is w.locals-is w.if-i-trees.false c.loop-i-test.true c.index-trees-i.is in record { adds = r.0; locals = r.1 }
]

pub statement::add_statements-returns-clause-agrees : goal.statement::add_statements-returns-clause-agrees
statement::add_statements-returns-clause-agrees t c = walked_done _ _ _ _ c.loop-i.invariant.adds (loop.statements_done (seen_world c.args.world.now) c.loop-i.locals c.args.block c.args.trees.now c.loop-i.i c.loop-i-test.false)

pub statement::add_statements-returns-clause-locals : goal.statement::add_statements-returns-clause-locals
statement::add_statements-returns-clause-locals t c = longer_left c.args.locals.now _ _ c.depth-outer.result c.loop-i.invariant.locals c.depth-outer.ensures c.leave.ensures
