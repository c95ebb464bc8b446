-- What was read, put before what is to come, is what the whole source gives; and the place is not far on.
use Rattle.std.proofs.Common.{◌≡◌, ◌+◌, ◌*◌, ◌≤◌, [], length}
use Rattle.rw_base.specs.Places.{place_after}
use Rattle.rw_lex.specs.Scan.{in_front, tokens_from}
use Rattle.rw_lex.proofs.scan.scanned.Given as goal

abbrev pub invariant-loop-rest : goal.invariant-loop-rest
invariant-loop-rest l = record {
  whole : in_front l.reader.tokens.items (tokens_from l.reader.at l.reader.line l.rest) ≡ tokens_from (place_after []) 0 l.fn.bytes;
  line : l.reader.at.line + length l.rest ≤ 1 + length l.fn.bytes;
  column : l.reader.at.column + 8 * length l.rest ≤ 1 + 8 * length l.fn.bytes;
}

abbrev pub decreases-loop-rest : goal.decreases-loop-rest
decreases-loop-rest l = length l.rest
