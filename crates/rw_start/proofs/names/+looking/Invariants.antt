-- What the loops over lists of trees keep: the places of the trees so far stand behind the old ones.
use Rattle.std.proofs.Common.{◌≡◌, ◌++◌, take, map, flat_map}
use Rattle.rw_tree.specs.Views.{itself}
use Rattle.rw_tree.specs.Trees.{alternative_of, expression, guarded, local_binding, statement}
use Rattle.rw_scope_rules.specs.Nodes.{binding_nodes, body_nodes, clause_nodes, expression_nodes, statement_nodes}
use Rattle.rw_start.specs.Positions.{strays}
use Rattle.rw_start.proofs.names.+looking.Given as goal

abbrev pub invariant-in_expressions-loop-tree : goal.invariant-in_expressions-loop-tree
invariant-in_expressions-loop-tree l = l.places.items ≡ l.fn.places.items ++ strays l.start (flat_map expression_nodes (map (expression itself) (take l.tree-index l.trees)))

abbrev pub invariant-in_clauses-loop-clause : goal.invariant-in_clauses-loop-clause
invariant-in_clauses-loop-clause l = l.places.items ≡ l.fn.places.items ++ strays l.start (flat_map clause_nodes (map (alternative_of itself) (take l.clause-index l.clauses)))

abbrev pub invariant-in_guards-loop-guard : goal.invariant-in_guards-loop-guard
invariant-in_guards-loop-guard l = l.places.items ≡ l.fn.places.items ++ strays l.start (flat_map body_nodes (map (guarded itself) (take l.guard-index l.guards)))

abbrev pub invariant-in_group-loop-binding : goal.invariant-in_group-loop-binding
invariant-in_group-loop-binding l = l.places.items ≡ l.fn.places.items ++ strays l.start (flat_map binding_nodes (map (local_binding itself) (take l.binding-index l.group)))

abbrev pub invariant-in_statements-loop-tree : goal.invariant-in_statements-loop-tree
invariant-in_statements-loop-tree l = l.places.items ≡ l.fn.places.items ++ strays l.start (flat_map statement_nodes (map (statement itself) (take l.tree-index l.trees)))
