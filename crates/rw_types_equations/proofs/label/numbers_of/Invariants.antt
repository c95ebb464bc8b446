-- What is made, before what is left, is the whole.
use Rattle.std.proofs.Common.{◌≡◌, ℕ, ◌++◌, drop, map}
use Rattle.rw_types_solving.specs.Types.{Ty}
use Rattle.rw_tree.specs.Trees.{expression, expression_parts}
use Rattle.rw_types_rules.specs.TypedTrees.{expressions_types}
use Rattle.rw_types_equations.specs.Numbered.{typed_by}
use Rattle.rw_types_equations.proofs.label.numbers_of.Given as goal

abbrev pub invariant-loop-tree : goal.invariant-loop-tree
invariant-loop-tree l = (t : ℕ → Ty) → map t l.numbers ++ expressions_types (expression_parts (map (expression (typed_by t)) (drop l.tree-index l.trees))) ≡ expressions_types (expression_parts (map (expression (typed_by t)) l.trees))
