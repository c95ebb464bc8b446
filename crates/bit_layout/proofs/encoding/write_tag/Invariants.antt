use Rattle.std.proofs.Common.{◌≡◌, ◌-◌, ◌/◌, ◌^◌, ◌++◌}
use Rattle.rw_core.specs.Bits.{binary}
use Rattle.bit_layout.proofs.encoding.write_tag.Given as goal

abbrev pub invariant-loop-place : goal.invariant-loop-place
invariant-loop-place l = l.bits.items ≡ l.initial.bits.items ++ binary (l.width - l.place) (l.tag / 2 ^ l.place)
