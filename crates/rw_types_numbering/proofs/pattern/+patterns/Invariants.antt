-- What the loop over patterns keeps: what was made, before what is left, is the whole; and so of the kinds.
use Rattle.std.proofs.Common.{◌≡◌, ◌++◌, drop, length, map}
use Rattle.rw_tree.specs.Views.{itself}
use Rattle.rw_tree.specs.Patterns.{pattern}
use Rattle.rw_types_equations.specs.Seen.{seen_world}
use Rattle.rw_types_numbering.specs.Slots.{pattern_slots}
use Rattle.rw_types_numbering.specs.Numbering.{numbered_pattern}
use Rattle.rw_types_numbering.specs.Each.{each_slots, each_numbered}
use Rattle.rw_types_numbering.proofs.pattern.+patterns.Given as goal

abbrev pub invariant-number_row-loop-tree : goal.invariant-number_row-loop-tree
invariant-number_row-loop-tree l = record {
  trees : map (pattern itself) l.made ++ each_numbered (λ b z. pattern_slots (seen_world l.world) z) (λ b m z. numbered_pattern (seen_world l.world) m z) (length l.kinds) (map (pattern itself) (drop l.tree-index l.trees)) ≡ each_numbered (λ b z. pattern_slots (seen_world l.world) z) (λ b m z. numbered_pattern (seen_world l.world) m z) (length l.fn.kinds) (map (pattern itself) l.trees);
  kinds : l.kinds ++ each_slots (λ b z. pattern_slots (seen_world l.world) z) (map (pattern itself) (drop l.tree-index l.trees)) ≡ l.fn.kinds ++ each_slots (λ b z. pattern_slots (seen_world l.world) z) (map (pattern itself) l.trees);
}
