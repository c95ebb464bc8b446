use Rattle.std.proofs.Common.{◌≡◌, length, ◌-◌}
use Rattle.vh_tree_reading.specs.Read.{sees, many_at}
use Rattle.vh_tree_reading.specs.ReadDesign.{var_at}
use Rattle.vh_tree.specs.declared.token.Mark.TheVariants as m
use Rattle.vhdl_read.proofs.Turns.{with_front}
use Rattle.vhdl_read.proofs.declare.vars.Given as goal

-- what was read so far, put before what is read from here on, is what is read in all
abbrev pub invariant-loop-turn : goal.invariant-loop-turn
invariant-loop-turn l = with_front l.all (many_at (sees m.Variable) (var_at m.Variable) (l._turn-end - l._turn) l.rest) ≡ many_at (sees m.Variable) (var_at m.Variable) (length l.tokens) l.tokens
