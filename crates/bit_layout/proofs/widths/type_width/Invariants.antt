use Rattle.std.proofs.Common.{◌≡◌, min, take, map}
use Rattle.std.specs.Prelude.{sum_by}
use Rattle.rw_core.specs.Bits.{greatest, width_of}
use Rattle.bit_layout.proofs.widths.type_width.Given as goal

abbrev pub invariant-loop-fields : goal.invariant-loop-fields
invariant-loop-fields l = l.longest ≡ min l.cap (greatest (map (sum_by (width_of l.types)) (take l.fields-index l.constructors)))
