-- What the loop keeps: what was found, before what is left to be found, is the whole.
use Rattle.std.proofs.Common.{◌≡◌, ◌++◌, drop, map}
use Rattle.rw_scope_graph.specs.Waiting.{marked}
use Rattle.rw_tree.specs.Views.{itself}
use Rattle.rw_tree.specs.Trees.{local_binding}
use Rattle.rw_scope_rules.specs.Groups.{binding_place}
use Rattle.rw_scope_groups.specs.Rows.{selected}
use Rattle.rw_scope_groups.proofs.cycles.in_group.Given as goal

abbrev pub invariant-loop-i : goal.invariant-loop-i
invariant-loop-i l =
    l.places.items ++ map binding_place (selected (marked l.marks.items) l.i (map (local_binding itself) (drop l.i l.bindings)))
    ≡ l.fn.places.items ++ map binding_place (selected (marked l.marks.items) 0 (map (local_binding itself) l.bindings))
