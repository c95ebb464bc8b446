use Rattle.std.proofs.Common.{◌≡◌, length, ◌+◌, ◌-◌, ◌*◌}
use Rattle.vh_tree_reading.specs.Read.{separated_at, many_at}
use Rattle.vh_tree_reading.specs.Read.{args_at, branch_at, stmts_at, stmt_at, choice_levels, begins_stmt}
use Rattle.vh_tree.specs.declared.token.Mark.TheVariants as m
use Rattle.vhdl_read.proofs.Turns.{with_front}
use Rattle.vhdl_read.proofs.stmt.+stmts.Given as goal

abbrev pub decreases-choice : goal.decreases-choice
decreases-choice l = 6 * l.levels + 0

abbrev pub decreases-stmt : goal.decreases-stmt
decreases-stmt l = 6 * l.levels + 1

abbrev pub decreases-stmts : goal.decreases-stmts
decreases-stmts l = 6 * l.levels + 2

abbrev pub decreases-branch : goal.decreases-branch
decreases-branch l = 6 * l.levels + 3

abbrev pub decreases-branches : goal.decreases-branches
decreases-branches l = 6 * l.levels + 4

abbrev pub decreases-other : goal.decreases-other
decreases-other l = 6 * l.levels + 4

abbrev pub decreases-choice_within : goal.decreases-choice_within
decreases-choice_within l = 6 * l.levels + 5

abbrev pub invariant-branches-loop-turn : goal.invariant-branches-loop-turn
invariant-branches-loop-turn l =
    let one = branch_at (args_at l.levels) (stmts_at l.at (args_at l.levels) (choice_levels l.at l.levels)) in
    with_front l.all (separated_at m.Elsif one (l._turn-end - l._turn) l.rest) ≡ separated_at m.Elsif one (length l.tokens) l.tokens

abbrev pub invariant-stmts-loop-turn : goal.invariant-stmts-loop-turn
invariant-stmts-loop-turn l =
    let one = stmt_at l.at (args_at l.levels) (choice_levels l.at l.levels) in
    with_front l.all (many_at (begins_stmt l.at) one (l._turn-end - l._turn) l.rest) ≡ many_at (begins_stmt l.at) one (length l.tokens) l.tokens
