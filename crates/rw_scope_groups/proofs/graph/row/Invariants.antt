-- What the loop keeps: what was found, before what is left to be found, is the whole.
use Rattle.std.proofs.Common.{◌≡◌, ◌++◌, drop, flat_map}
use Rattle.rw_scope_groups.specs.Rows.{found_in}
use Rattle.rw_scope_groups.proofs.graph.row.Given as goal

abbrev pub invariant-loop-wanted : goal.invariant-loop-wanted
invariant-loop-wanted l = l.row ++ flat_map (found_in l.table) (drop l.wanted-index l.wanted-items) ≡ flat_map (found_in l.table) l.wanted-items
