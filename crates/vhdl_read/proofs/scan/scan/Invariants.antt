use Rattle.std.proofs.Common.{◌≡◌, ◌-◌, length}
use Rattle.vh_tree_reading.specs.Scan.{tokens_at}
use Rattle.vhdl_read.proofs.Scanning.{behind_all}
use Rattle.vhdl_read.proofs.scan.scan.Given as goal

abbrev pub invariant-loop-turn : goal.invariant-loop-turn
invariant-loop-turn l = behind_all l.all (tokens_at (l._turn-end - l._turn) l.rest) ≡ tokens_at (length l.text) l.text
