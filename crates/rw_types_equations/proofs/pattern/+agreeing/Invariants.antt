-- What is added, and what is left, is the whole.
use Rattle.std.proofs.Common.{drop}
use Rattle.rw_tree.specs.Patterns.{patterns}
use Rattle.rw_types_rules.specs.WellTyped.{RowAgrees}
use Rattle.rw_types_equations.specs.Numbered.{typed_by}
use Rattle.rw_types_equations.specs.Seen.{seen_world}
use Rattle.rw_types_equations.proofs.Adding.{Walked}
use Rattle.rw_types_equations.proofs.pattern.+agreeing.Given as goal

abbrev pub invariant-add_row-loop-tree : goal.invariant-add_row-loop-tree
invariant-add_row-loop-tree l = Walked l.fn.out l.out (λ t. RowAgrees (seen_world l.world) (patterns (typed_by t) l.trees)) (λ t. RowAgrees (seen_world l.world) (patterns (typed_by t) (drop l.tree-index l.trees)))
