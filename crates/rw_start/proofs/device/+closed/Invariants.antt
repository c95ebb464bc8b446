-- The types that are left are closed data where all are.
use Rattle.std.proofs.Common.{◌≡◌, drop}
use Rattle.rw_tree.specs.Types.{writtens, type_parts}
use Rattle.rw_start.specs.Device.{are_closed_data}
use Rattle.rw_start.proofs.device.+closed.Given as goal

abbrev pub invariant-are_closed_data-loop-ty : goal.invariant-are_closed_data-loop-ty
invariant-are_closed_data-loop-ty l = are_closed_data (type_parts (writtens (drop l.ty-index l.types))) ≡ are_closed_data (type_parts (writtens l.types))
