use Rattle.std.proofs.Common.{◌≡◌, ◌++◌, map, drop, nat_eq}
use Rattle.rw_trace.proofs.lines.bits.Given as goal

abbrev pub invariant-loop-byte : goal.invariant-loop-byte
invariant-loop-byte l = l.bits.items ++ map (nat_eq 49) (drop l.byte-index l.characters) ≡ map (nat_eq 49) l.characters
