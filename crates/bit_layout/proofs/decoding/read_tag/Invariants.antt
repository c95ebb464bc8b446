use Rattle.std.proofs.Common.{◌≡◌, ◌<◌, ◌^◌, take}
use Rattle.bit_layout.specs.Parts.{number_of}
use Rattle.bit_layout.proofs.decoding.read_tag.Given as goal

abbrev pub invariant-loop-bit : goal.invariant-loop-bit
invariant-loop-bit l = record { value : l.number ≡ number_of (take l.bit-index l.bits); small : l.number < 2 ^ l.bit-index }
