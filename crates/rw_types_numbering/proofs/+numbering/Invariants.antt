-- What the loops over lists of trees keep: what was made, before what is left, is the whole; and so of the kinds.
use Rattle.std.proofs.Common.{◌≡◌, ◌++◌, drop, length, map}
use Rattle.rw_tree.specs.Views.{itself}
use Rattle.rw_tree.specs.Trees.{alternative_of, expression, guarded, local_binding, statement}
use Rattle.rw_types_equations.specs.Seen.{seen_world}
use Rattle.rw_types_numbering.specs.Slots.{expression_slots, clause_slots, body_slots, binding_slots, statement_slots}
use Rattle.rw_types_numbering.specs.Numbering.{numbered_expression, numbered_clause, numbered_body, numbered_binding, numbered_statement}
use Rattle.rw_types_numbering.specs.Each.{each_slots, each_numbered}
use Rattle.rw_types_numbering.proofs.+numbering.Given as goal

abbrev pub invariant-expr::number_exprs-loop-tree : goal.invariant-expr::number_exprs-loop-tree
invariant-expr::number_exprs-loop-tree l = record {
  trees : map (expression itself) l.made ++ each_numbered (λ b z. expression_slots (seen_world l.world) z) (λ b m z. numbered_expression (seen_world l.world) m z) (length l.kinds) (map (expression itself) (drop l.tree-index l.trees)) ≡ each_numbered (λ b z. expression_slots (seen_world l.world) z) (λ b m z. numbered_expression (seen_world l.world) m z) (length l.fn.kinds) (map (expression itself) l.trees);
  kinds : l.kinds ++ each_slots (λ b z. expression_slots (seen_world l.world) z) (map (expression itself) (drop l.tree-index l.trees)) ≡ l.fn.kinds ++ each_slots (λ b z. expression_slots (seen_world l.world) z) (map (expression itself) l.trees);
}

abbrev pub invariant-clause::number_clauses-loop-tree : goal.invariant-clause::number_clauses-loop-tree
invariant-clause::number_clauses-loop-tree l = record {
  trees : map (alternative_of itself) l.made ++ each_numbered (λ b z. clause_slots (seen_world l.world) z) (λ b m z. numbered_clause (seen_world l.world) m z) (length l.kinds) (map (alternative_of itself) (drop l.tree-index l.trees)) ≡ each_numbered (λ b z. clause_slots (seen_world l.world) z) (λ b m z. numbered_clause (seen_world l.world) m z) (length l.fn.kinds) (map (alternative_of itself) l.trees);
  kinds : l.kinds ++ each_slots (λ b z. clause_slots (seen_world l.world) z) (map (alternative_of itself) (drop l.tree-index l.trees)) ≡ l.fn.kinds ++ each_slots (λ b z. clause_slots (seen_world l.world) z) (map (alternative_of itself) l.trees);
}

abbrev pub invariant-clause::number_guards-loop-tree : goal.invariant-clause::number_guards-loop-tree
invariant-clause::number_guards-loop-tree l = record {
  trees : map (guarded itself) l.made ++ each_numbered (λ b z. body_slots (seen_world l.world) z) (λ b m z. numbered_body (seen_world l.world) m z) (length l.kinds) (map (guarded itself) (drop l.tree-index l.trees)) ≡ each_numbered (λ b z. body_slots (seen_world l.world) z) (λ b m z. numbered_body (seen_world l.world) m z) (length l.fn.kinds) (map (guarded itself) l.trees);
  kinds : l.kinds ++ each_slots (λ b z. body_slots (seen_world l.world) z) (map (guarded itself) (drop l.tree-index l.trees)) ≡ l.fn.kinds ++ each_slots (λ b z. body_slots (seen_world l.world) z) (map (guarded itself) l.trees);
}

abbrev pub invariant-group::number_group-loop-tree : goal.invariant-group::number_group-loop-tree
invariant-group::number_group-loop-tree l = record {
  trees : map (local_binding itself) l.made ++ each_numbered (λ b z. binding_slots (seen_world l.world) z) (λ b m z. numbered_binding (seen_world l.world) m z) (length l.kinds) (map (local_binding itself) (drop l.tree-index l.trees)) ≡ each_numbered (λ b z. binding_slots (seen_world l.world) z) (λ b m z. numbered_binding (seen_world l.world) m z) (length l.fn.kinds) (map (local_binding itself) l.trees);
  kinds : l.kinds ++ each_slots (λ b z. binding_slots (seen_world l.world) z) (map (local_binding itself) (drop l.tree-index l.trees)) ≡ l.fn.kinds ++ each_slots (λ b z. binding_slots (seen_world l.world) z) (map (local_binding itself) l.trees);
}

abbrev pub invariant-statement::number_statements-loop-i : goal.invariant-statement::number_statements-loop-i
invariant-statement::number_statements-loop-i l = record {
  trees : map (statement itself) l.made ++ each_numbered (λ b z. statement_slots (seen_world l.world) b z) (λ b m z. numbered_statement (seen_world l.world) b m z) (length l.kinds) (map (statement itself) (drop l.i l.trees)) ≡ each_numbered (λ b z. statement_slots (seen_world l.world) b z) (λ b m z. numbered_statement (seen_world l.world) b m z) (length l.fn.kinds) (map (statement itself) l.trees);
  kinds : l.kinds ++ each_slots (λ b z. statement_slots (seen_world l.world) b z) (map (statement itself) (drop l.i l.trees)) ≡ l.fn.kinds ++ each_slots (λ b z. statement_slots (seen_world l.world) b z) (map (statement itself) l.trees);
}
