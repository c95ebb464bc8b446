-- What the loop keeps: the rows so far are those of the bindings so far.
use Rattle.std.proofs.Common.{◌≡◌, map, flat_map, take}
use Rattle.rw_tree.specs.Views.{itself}
use Rattle.rw_tree.specs.Trees.{local_binding}
use Rattle.rw_scope_rules.specs.Groups.{mentioned_numbers}
use Rattle.rw_scope_groups.specs.Rows.{found_in}
use Rattle.rw_scope_groups.proofs.graph.rows.Given as goal

abbrev pub invariant-loop-binding : goal.invariant-loop-binding
invariant-loop-binding l = l.rows ≡ map (λ b. flat_map (found_in l.table) (mentioned_numbers b)) (map (local_binding itself) (take l.binding-index l.bindings))
