-- The run so far, and what is to come, is the whole run.
use Rattle.std.proofs.Common.{◌≡◌, ◌+◌, drop}
use Rattle.std.specs.List.{prefix_len}
use Rattle.rw_lex.specs.Bytes.{is_in}
use Rattle.rw_lex.proofs.bytes.run_len.Given as goal

abbrev pub invariant-loop-i : goal.invariant-loop-i
invariant-loop-i l = l.i + prefix_len (is_in l.kind) (drop l.i l.bytes) ≡ prefix_len (is_in l.kind) l.bytes
