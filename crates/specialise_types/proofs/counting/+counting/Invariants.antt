-- The parts so far are counted.
use Rattle.std.proofs.Common.{◌≡◌, min, map, take}
use Rattle.rw_types_shared.specs.Shared.{shown}
use Rattle.specialise_types.proofs.Nodes.{so_far}
use Rattle.specialise_types.proofs.counting.+counting.Given as goal

abbrev pub decreases-count : goal.decreases-count
decreases-count l = l.n

abbrev pub invariant-loop-part : goal.invariant-loop-part
invariant-loop-part l = l.sum ≡ min l.limit (so_far (map shown l.nodes) l.n (take l.part-index l.part-items))
