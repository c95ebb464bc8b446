use Rattle.std.proofs.Common.{◌≡◌, length, ◌-◌}
use Rattle.vh_tree_reading.specs.Read.{separated_at}
use Rattle.vh_tree_reading.specs.Read.{args_at, test_at}
use Rattle.vh_tree.specs.declared.token.Mark.TheVariants as m
use Rattle.vhdl_read.proofs.Turns.{with_front}
use Rattle.vhdl_read.proofs.stmt.tests.Given as goal

abbrev pub invariant-loop-turn : goal.invariant-loop-turn
invariant-loop-turn l =
    let one = test_at (args_at l.levels) in
    with_front l.all (separated_at m.And one (l._turn-end - l._turn) l.rest) ≡ separated_at m.And one (length l.tokens) l.tokens
