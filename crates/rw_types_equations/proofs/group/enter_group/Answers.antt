-- One binding after the other.
use Rattle.std.proofs.Common.{ap, ◌∙◌, ◌+◌, map, drop}
use Rattle.rw_tree.specs.Trees.{local_binding, binding_parts}
use Rattle.rw_types_rules.specs.TypedTrees.{group_locals}
use Rattle.rw_types_equations.specs.Numbered.{typed_by}
use Rattle.rw_types_equations.proofs.Entering.{entered_step, entered_done}
use Rattle.rw_types_equations.proofs.Rows.{mapped_next, mapped_none}
use Rattle.rw_types_equations.proofs.ClauseArms.{group_more}
use Rattle.rw_types_equations.proofs.group.enter_group.Goals as goal

pub loop-tree-preserved : goal.loop-tree-preserved
loop-tree-preserved c = entered_step _ _ _ _ _ _ _ c.loop-tree.invariant c.in_ok-enter_binding.ensures
    (λ t. ap (λ z. group_locals (binding_parts z)) (mapped_next (local_binding (typed_by t)) c.args.trees.now c.loop-tree.tree-index c.tree-item.result c.loop-tree-test.true c.tree-item.is) ∙ group_more (local_binding (typed_by t) c.tree-item.result) (map (local_binding (typed_by t)) (drop (c.loop-tree.tree-index + 1) c.args.trees.now)))

pub returns : goal.returns
returns c = entered_done _ _ _ _ c.loop-tree.invariant
    (λ t. ap (λ z. group_locals (binding_parts z)) (mapped_none (local_binding (typed_by t)) c.args.trees.now c.loop-tree.tree-index c.loop-tree-test.false))
