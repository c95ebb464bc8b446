-- What is to come closes the comments that are still open, and so all do.
use Rattle.std.proofs.Common.{◌≡◌, ◌+◌, ◌≤◌, drop}
use Rattle.rw_lex.specs.Scan.{further, closing_len}
use Rattle.rw_lex.proofs.piece.closing_len.Given as goal

abbrev pub invariant-loop-i : goal.invariant-loop-i
invariant-loop-i l = record {
  rest : further l.i (closing_len l.depth l.before (drop l.i l.bytes)) ≡ closing_len 1 0 l.bytes;
  some : 1 ≤ l.depth;
  few : l.depth ≤ 1 + l.i;
}
