-- The types so far are counted.
use Rattle.std.proofs.Common.{◌≡◌, min, map, take}
use Rattle.std.specs.List.{sum_by}
use Rattle.rw_types_solving.specs.Types.{nodes}
use Rattle.rw_types_shared.specs.Shared.{shown, type_at}
use Rattle.specialise_types.proofs.counting.count_all.Given as goal

abbrev pub invariant-loop-n : goal.invariant-loop-n
invariant-loop-n l = l.sum ≡ min l.limit (sum_by nodes (map (type_at (map shown l.nodes)) (take l.n-index l.numbers)))
