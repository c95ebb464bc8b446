-- The place so far is that of what was read, and each byte moves it by one line or eight columns at most.
use Rattle.std.proofs.Common.{◌≡◌, ◌+◌, ◌≤◌, take, ◌*◌}
use Rattle.rw_lex.specs.Scan.{place_from}
use Rattle.rw_lex.proofs.scan.place_behind.Given as goal

abbrev pub invariant-loop-byte : goal.invariant-loop-byte
invariant-loop-byte l = record {
  place : l.place ≡ place_from l.fn.at (take l.byte-index l.bytes);
  line : l.place.line ≤ l.fn.at.line + l.byte-index;
  column : l.place.column ≤ l.fn.at.column + 8 * l.byte-index;
}
