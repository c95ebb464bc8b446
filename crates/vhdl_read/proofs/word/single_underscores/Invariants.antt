use Rattle.std.proofs.Common.{◌≡◌, ◌≤◌, ◌-◌, length}
use Rattle.vh_tree.specs.Text.{single_underscores}
use Rattle.vhdl_read.proofs.word.single_underscores.Given as goal

abbrev pub invariant-loop-turn : goal.invariant-loop-turn
invariant-loop-turn l = (single_underscores l.rest ≡ single_underscores l.word) × (length l.rest ≤ l._turn-end - l._turn)
