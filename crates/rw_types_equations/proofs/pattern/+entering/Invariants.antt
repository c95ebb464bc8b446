-- What is bound, and what is left, is the whole.
use Rattle.std.proofs.Common.{drop}
use Rattle.rw_tree.specs.Patterns.{patterns}
use Rattle.rw_types_rules.specs.TypedTrees.{row_locals}
use Rattle.rw_types_equations.specs.Numbered.{typed_by}
use Rattle.rw_types_equations.proofs.Entering.{EnteredSo}
use Rattle.rw_types_equations.proofs.pattern.+entering.Given as goal

abbrev pub invariant-enter_row-loop-tree : goal.invariant-enter_row-loop-tree
invariant-enter_row-loop-tree l = EnteredSo l.fn.locals l.locals (λ t. row_locals (patterns (typed_by t) l.trees)) (λ t. row_locals (patterns (typed_by t) (drop l.tree-index l.trees)))
