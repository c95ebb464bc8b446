use Rattle.std.proofs.Common.{◌≡◌, length, ◌-◌}
use Rattle.vh_tree_reading.specs.Read.{separated_at}
use Rattle.vh_tree_reading.specs.ReadDesign.{param_at}
use Rattle.vh_tree.specs.declared.token.Mark.TheVariants as m
use Rattle.vhdl_read.proofs.Turns.{with_front}
use Rattle.vhdl_read.proofs.declare.param_list.Given as goal

-- what was read so far, put before what is read from here on, is what is read in all
abbrev pub invariant-loop-turn : goal.invariant-loop-turn
invariant-loop-turn l = with_front l.all (separated_at m.Semicolon param_at (l._turn-end - l._turn) l.rest) ≡ separated_at m.Semicolon param_at (length l.tokens) l.tokens
