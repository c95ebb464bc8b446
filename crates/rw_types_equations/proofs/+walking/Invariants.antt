-- What the loops over lists of trees keep: what is added, and what is left, is the whole.
use Rattle.std.proofs.Common.{◌≡◌, drop, map}
use Rattle.rw_types_solving.specs.Types.{apply, plain}
use Rattle.rw_tree.specs.Trees.{expression, expression_parts, alternative_of, alternative_parts, guarded, body_parts, local_binding, binding_parts, statement, statement_parts}
use Rattle.rw_types_rules.specs.WellTyped.{ExpressionsAgree, ClausesAgree, BodiesAgree, GroupAgrees, StatementsAgree}
use Rattle.rw_types_equations.specs.Numbered.{typed_by}
use Rattle.rw_types_equations.specs.Seen.{seen_world}
use Rattle.rw_types_equations.proofs.Adding.{Walked}
use Rattle.rw_types_equations.proofs.Entering.{Longer}
use Rattle.rw_types_equations.proofs.+walking.Given as goal

abbrev pub invariant-expr::add_expressions-loop-tree : goal.invariant-expr::add_expressions-loop-tree
invariant-expr::add_expressions-loop-tree l = record {
  adds : Walked l.fn.out l.out (λ t. ExpressionsAgree (seen_world l.world) (map t l.fn.locals) (expression_parts (map (expression (typed_by t)) l.trees)))
      (λ t. ExpressionsAgree (seen_world l.world) (map t l.fn.locals) (expression_parts (map (expression (typed_by t)) (drop l.tree-index l.trees))));
  locals : l.locals ≡ l.fn.locals;
}

abbrev pub invariant-clause::add_clauses-loop-tree : goal.invariant-clause::add_clauses-loop-tree
invariant-clause::add_clauses-loop-tree l = record {
  adds : Walked l.fn.out l.out (λ t. ClausesAgree (seen_world l.world) (map t l.fn.locals) (apply t (plain l.type_)) (alternative_parts (map (alternative_of (typed_by t)) l.trees)))
      (λ t. ClausesAgree (seen_world l.world) (map t l.fn.locals) (apply t (plain l.type_)) (alternative_parts (map (alternative_of (typed_by t)) (drop l.tree-index l.trees))));
  locals : l.locals ≡ l.fn.locals;
}

abbrev pub invariant-clause::add_bodies-loop-tree : goal.invariant-clause::add_bodies-loop-tree
invariant-clause::add_bodies-loop-tree l = record {
  adds : Walked l.fn.out l.out (λ t. BodiesAgree (seen_world l.world) (map t l.fn.locals) (map t l.from) (t l.number) (body_parts (map (guarded (typed_by t)) l.trees)))
      (λ t. BodiesAgree (seen_world l.world) (map t l.fn.locals) (map t l.from) (t l.number) (body_parts (map (guarded (typed_by t)) (drop l.tree-index l.trees))));
  locals : l.locals ≡ l.fn.locals;
}

abbrev pub invariant-group::add_group-loop-tree : goal.invariant-group::add_group-loop-tree
invariant-group::add_group-loop-tree l = record {
  adds : Walked l.fn.out l.out (λ t. GroupAgrees (seen_world l.world) (map t l.fn.locals) (binding_parts (map (local_binding (typed_by t)) l.trees)))
      (λ t. GroupAgrees (seen_world l.world) (map t l.fn.locals) (binding_parts (map (local_binding (typed_by t)) (drop l.tree-index l.trees))));
  locals : l.locals ≡ l.fn.locals;
}

abbrev pub invariant-statement::add_statements-loop-i : goal.invariant-statement::add_statements-loop-i
invariant-statement::add_statements-loop-i l = record {
  adds : Walked l.fn.out l.out (λ t. StatementsAgree (seen_world l.world) (map t l.fn.locals) (t l.block) (statement_parts (map (statement (typed_by t)) l.trees)))
      (λ t. StatementsAgree (seen_world l.world) (map t l.locals) (t l.block) (statement_parts (map (statement (typed_by t)) (drop l.i l.trees))));
  locals : Longer l.fn.locals l.locals;
}
