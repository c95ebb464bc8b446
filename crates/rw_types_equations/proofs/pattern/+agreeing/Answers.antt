-- One pattern after the other, and what each kind agrees in.
use Rattle.rw_tree.specs.Patterns.{pattern}
use Rattle.rw_types_rules.specs.WellTyped.{RowAgrees}
use Rattle.rw_types_equations.specs.Numbered.{typed_by}
use Rattle.rw_types_equations.specs.Seen.{seen_world}
use Rattle.rw_types_equations.proofs.Adding.{adds_as, adds_two, walked_step, walked_done, fact_is}
use Rattle.rw_types_equations.proofs.Rows.{mapped_next, mapped_none}
use Rattle.rw_types_equations.proofs.PatternArms.{is_con, is_tuple}
use Rattle.rw_types_equations.proofs.pattern.+agreeing.Goals as goal

pub add_pattern-returns-in_ok-add_row-in-Con : goal.add_pattern-returns-in_ok-add_row-in-Con
add_pattern-returns-in_ok-add_row-in-Con t c = adds_as _ _ _ _ (adds_two _ _ _ _ _ c.in_ok-add_bound_match-in-Con.ensures c.in_ok-add_row-in-Con.ensures)
    (is_con (seen_world c.args.world.now) c.args.tree.now _ _ _ _ _ _ c.in-Con.is c.as_slice-parts.ensures c.as_slice.ensures c.in_ok-numbers-in-Con.ensures)

pub add_pattern-returns-in_ok-add_row-in-Tuple : goal.add_pattern-returns-in_ok-add_row-in-Tuple
add_pattern-returns-in_ok-add_row-in-Tuple t c = adds_as _ _ _ _ (adds_two _ _ _ _ _ c.in_ok-equate-in-Tuple.ensures c.in_ok-add_row-in-Tuple.ensures)
    (is_tuple (seen_world c.args.world.now) c.args.tree.now _ _ _ _ _ _ c.in-Tuple.is c.as_slice-parts-in-Tuple.ensures c.as_slice-in-Tuple.ensures c.in_ok-numbers-in-Tuple.ensures c.in_ok-tuple_of-in-Tuple.ensures)

pub add_row-loop-tree-preserved : goal.add_row-loop-tree-preserved
add_row-loop-tree-preserved t c = walked_step _ _ _ _ _ _ _ c.loop-tree.invariant c.in_ok-add_pattern.ensures
    (λ t. fact_is (RowAgrees (seen_world c.args.world.now)) _ _ (mapped_next (pattern (typed_by t)) c.args.trees.now c.loop-tree.tree-index c.tree-item.result c.loop-tree-test.true c.tree-item.is))

pub add_row-returns : goal.add_row-returns
add_row-returns t c = walked_done _ _ _ _ c.loop-tree.invariant
    (λ t. (fact_is (RowAgrees (seen_world c.args.world.now)) _ _ (mapped_none (pattern (typed_by t)) c.args.trees.now c.loop-tree.tree-index c.loop-tree-test.false)).1 tt)
