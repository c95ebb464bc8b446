-- Lists of patterns, one after the other, and as the parts of a pattern.
use Rattle.std.proofs.Common.{◌∙◌, ◌+◌, ◌++◌, length, map, drop, refl, sym, ap}
use Rattle.rw_tree.specs.Views.{itself}
use Rattle.rw_tree.specs.Patterns.{pattern, pattern_parts}
use Rattle.rw_types_equations.specs.Seen.{seen_world}
use Rattle.rw_types_numbering.specs.Slots.{pattern_slots}
use Rattle.rw_types_numbering.specs.Numbering.{numbered_pattern}
use Rattle.rw_types_numbering.specs.Each.{is_nil}
use Rattle.rw_types_numbering.proofs.Each.{each_next, each_done, kinds_next, kinds_done, row_each, row_slots_each, parts_each, parts_slots_each}
use Rattle.rw_types_numbering.proofs.pattern.+patterns.Goals as goal

pub number_row-loop-tree-preserved : goal.number_row-loop-tree-preserved
number_row-loop-tree-preserved t c = record {
  trees = each_next (pattern itself) (pattern itself) (λ b z. pattern_slots (seen_world c.args.world.now) z) (λ b m z. numbered_pattern (seen_world c.args.world.now) m z) c.args.trees.now c.loop-tree.tree-index c.tree-item.result c.loop-tree.made _ c.in_ok-number_pattern.field-0 c.loop-tree.kinds _ (is_nil (map (pattern itself) (drop (c.loop-tree.tree-index + 1) c.args.trees.now))) _
      c.loop-tree-test.true c.tree-item.is refl c.in_ok-push.ensures.ok c.in_ok-number_pattern.ensures.tree c.in_ok-number_pattern.ensures.kinds c.loop-tree.invariant.trees;
  kinds = kinds_next (pattern itself) (λ b z. pattern_slots (seen_world c.args.world.now) z) c.args.trees.now c.loop-tree.tree-index c.tree-item.result c.loop-tree.kinds _ (is_nil (map (pattern itself) (drop (c.loop-tree.tree-index + 1) c.args.trees.now))) _
      c.loop-tree-test.true c.tree-item.is refl c.in_ok-number_pattern.ensures.kinds c.loop-tree.invariant.kinds;
}

pub number_row-returns-clause-trees : goal.number_row-returns-clause-trees
number_row-returns-clause-trees t c =
    each_done (pattern itself) (pattern itself) (λ b z. pattern_slots (seen_world c.args.world.now) z) (λ b m z. numbered_pattern (seen_world c.args.world.now) m z) c.args.trees.now c.loop-tree.tree-index c.loop-tree.made (length c.loop-tree.kinds) _ c.loop-tree-test.false c.loop-tree.invariant.trees
    ∙ row_each (seen_world c.args.world.now) (length c.args.kinds.now) (map (pattern itself) c.args.trees.now)

pub number_row-returns-clause-parts : goal.number_row-returns-clause-parts
number_row-returns-clause-parts t c =
    ap pattern_parts (each_done (pattern itself) (pattern itself) (λ b z. pattern_slots (seen_world c.args.world.now) z) (λ b m z. numbered_pattern (seen_world c.args.world.now) m z) c.args.trees.now c.loop-tree.tree-index c.loop-tree.made (length c.loop-tree.kinds) _ c.loop-tree-test.false c.loop-tree.invariant.trees)
    ∙ parts_each (seen_world c.args.world.now) (length c.args.kinds.now) (map (pattern itself) c.args.trees.now)

pub number_row-returns-clause-kinds : goal.number_row-returns-clause-kinds
number_row-returns-clause-kinds t c =
    kinds_done (pattern itself) (λ b z. pattern_slots (seen_world c.args.world.now) z) c.args.trees.now c.loop-tree.tree-index c.loop-tree.kinds _ c.loop-tree-test.false c.loop-tree.invariant.kinds
    ∙ ap (λ z. c.args.kinds.now ++ z) (sym (row_slots_each (seen_world c.args.world.now) (map (pattern itself) c.args.trees.now)))

pub number_row-returns-clause-parts_kinds : goal.number_row-returns-clause-parts_kinds
number_row-returns-clause-parts_kinds t c =
    kinds_done (pattern itself) (λ b z. pattern_slots (seen_world c.args.world.now) z) c.args.trees.now c.loop-tree.tree-index c.loop-tree.kinds _ c.loop-tree-test.false c.loop-tree.invariant.kinds
    ∙ ap (λ z. c.args.kinds.now ++ z) (sym (parts_slots_each (seen_world c.args.world.now) (map (pattern itself) c.args.trees.now)))
