-- The plain form of a node, which the public contracts rest on, and the nodes that are left to list, which the functions
-- inside promise each other.
use Rattle.std.specs.Prelude.{List, [], ◌∷◌, ◌++◌, map, flat_map}
use Rattle.rw_tree.specs.Views.{itself}
use Rattle.rw_tree.specs.Patterns.{pattern}
use Rattle.rw_tree.specs.Trees.{expression, alternative_of, guarded, local_binding, binding_parts, statement}
use Rattle.rw_scope_rules.specs.Nodes.{Node as PlainNode, expression_node, pattern_node, clause_node, group_node, binding_node, statement_node}
use Rattle.rw_scope_rules.specs.Nodes.{expression_nodes, pattern_nodes, clause_nodes, body_nodes, binding_nodes, statement_nodes}
use Rattle.rw_scope_nodes.specs.declared.node.Node.{Node}
use Rattle.rw_scope_nodes.specs.declared.node.Node.TheVariants.{Expression, Pattern, Clause, Group, Binding, Statement}
use Rattle.rw_scope_nodes.specs.declared.task.Task.{Task}
use Rattle.rw_scope_nodes.specs.declared.task.Task.TheVariants as task
use Rattle.rw_scope_nodes.specs.declared.task.Parts.{Parts}

-- the plain form of a node, with what stands at each node kept as it is
abbrev pub plain_node : {A : Type 0} → Node A → PlainNode A
plain_node (Expression e) = expression_node (expression itself e.now)
plain_node (Pattern p) = pattern_node (pattern itself p.now)
plain_node (Clause c) = clause_node (alternative_of itself c.now)
plain_node (Group bindings) = group_node (binding_parts (map (local_binding itself) bindings.now))
plain_node (Binding b) = binding_node (local_binding itself b.now)
plain_node (Statement s) = statement_node (statement itself s.now)

abbrev pub plain_nodes : {A : Type 0} → List (Node A) → List (PlainNode A)
plain_nodes nodes = map plain_node nodes

-- the nodes that a task lists
abbrev pub task_nodes : {A : Type 0} → Task A → List (PlainNode A)
task_nodes task.Nothing = []
task_nodes (task.Expression e) = expression_nodes (expression itself e.now)
task_nodes (task.Expressions es) = flat_map expression_nodes (map (expression itself) es.now)
task_nodes (task.Pattern p) = pattern_nodes (pattern itself p.now)
task_nodes (task.Patterns ps) = flat_map pattern_nodes (map (pattern itself) ps.now)
task_nodes (task.Clause c) = clause_nodes (alternative_of itself c.now)
task_nodes (task.Clauses cs) = flat_map clause_nodes (map (alternative_of itself) cs.now)
task_nodes (task.Guards gs) = flat_map body_nodes (map (guarded itself) gs.now)
task_nodes (task.Group bs) = group_node (binding_parts (map (local_binding itself) bs.now)) ∷ flat_map binding_nodes (map (local_binding itself) bs.now)
task_nodes (task.Bindings bs) = flat_map binding_nodes (map (local_binding itself) bs.now)
task_nodes (task.Binding b) = binding_nodes (local_binding itself b.now)
task_nodes (task.Statements ss) = flat_map statement_nodes (map (statement itself) ss.now)

-- those of three tasks, the first first
abbrev pub inner_nodes : {A : Type 0} → Parts A → List (PlainNode A)
inner_nodes parts = task_nodes parts.first ++ (task_nodes parts.second ++ task_nodes parts.third)

-- those of the tasks that are left, of which the last is to be done first
abbrev pub left_nodes : {A : Type 0} → List (Task A) → List (PlainNode A)
left_nodes [] = []
left_nodes (task ∷ tasks) = left_nodes tasks ++ task_nodes task

-- the nodes that were found, and behind them those that are left
abbrev pub in_all : {A : Type 0} → List (Node A) → List (Task A) → List (PlainNode A)
in_all found tasks = plain_nodes found ++ left_nodes tasks
