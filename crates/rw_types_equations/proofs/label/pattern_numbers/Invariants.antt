-- What is made, before what is left, is the whole.
use Rattle.std.proofs.Common.{◌≡◌, ℕ, ◌++◌, drop, map}
use Rattle.rw_types_solving.specs.Types.{Ty}
use Rattle.rw_tree.specs.Patterns.{patterns}
use Rattle.rw_types_rules.specs.TypedTrees.{row_types}
use Rattle.rw_types_equations.specs.Numbered.{typed_by}
use Rattle.rw_types_equations.proofs.label.pattern_numbers.Given as goal

abbrev pub invariant-loop-tree : goal.invariant-loop-tree
invariant-loop-tree l = (t : ℕ → Ty) → map t l.numbers ++ row_types (patterns (typed_by t) (drop l.tree-index l.trees)) ≡ row_types (patterns (typed_by t) l.trees)
