use Rattle.std.proofs.Common.{◌≡◌, ◌+◌, ◌≤◌, take, ◌*◌}
use Rattle.rw_base.specs.Places.{place_after}
use Rattle.rw_base.proofs.place.place_of.Given as goal

-- the place so far is that of what was read, and each byte moves it by one line or eight columns at most
abbrev pub invariant-loop-byte : goal.invariant-loop-byte
invariant-loop-byte l = record {
  place : l.place ≡ place_after (take l.byte-index l.byte-items);
  line : l.place.line ≤ 1 + l.byte-index;
  column : l.place.column ≤ 1 + 8 * l.byte-index;
}
