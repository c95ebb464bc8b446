-- One number more.
use Rattle.std.proofs.Common.{ap}
use Rattle.rw_tree.specs.Patterns.{pattern}
use Rattle.rw_types_rules.specs.TypedTrees.{row_types}
use Rattle.rw_types_equations.specs.Numbered.{typed_by}
use Rattle.rw_types_equations.proofs.Rows.{mapped_next, one_number}
use Rattle.rw_types_equations.proofs.label.pattern_numbers.Goals as goal

pub loop-tree-preserved : goal.loop-tree-preserved
loop-tree-preserved c = λ t. one_number t _ _ _ _ _ _ _ c.in_ok-push.ensures.ok
    (ap row_types (mapped_next (pattern (typed_by t)) c.args.trees.now c.loop-tree.tree-index c.tree-item.result c.loop-tree-test.true c.tree-item.is)) (c.pattern_number.ensures t) (c.loop-tree.invariant t)
