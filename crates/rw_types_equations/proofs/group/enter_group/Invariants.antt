-- What is bound, and what is left, is the whole.
use Rattle.std.proofs.Common.{drop, map}
use Rattle.rw_tree.specs.Trees.{local_binding, binding_parts}
use Rattle.rw_types_rules.specs.TypedTrees.{group_locals}
use Rattle.rw_types_equations.specs.Numbered.{typed_by}
use Rattle.rw_types_equations.proofs.Entering.{EnteredSo}
use Rattle.rw_types_equations.proofs.group.enter_group.Given as goal

abbrev pub invariant-loop-tree : goal.invariant-loop-tree
invariant-loop-tree l = EnteredSo l.fn.locals l.locals (λ t. group_locals (binding_parts (map (local_binding (typed_by t)) l.trees))) (λ t. group_locals (binding_parts (map (local_binding (typed_by t)) (drop l.tree-index l.trees))))
