use Rattle.std.proofs.Common.{◌≡◌, length, ◌+◌, ◌-◌, ◌*◌}
use Rattle.vh_tree_reading.specs.Read.{separated_at}
use Rattle.vh_tree_reading.specs.Read.{args_at, expr_at, term_at}
use Rattle.vh_tree.specs.declared.token.Mark.TheVariants as m
use Rattle.vhdl_read.proofs.Turns.{with_front}
use Rattle.vhdl_read.proofs.expr.+exprs.Given as goal

abbrev pub decreases-args : goal.decreases-args
decreases-args l = 8 * l.levels

abbrev pub decreases-call : goal.decreases-call
decreases-call l = 8 * l.levels + 1

abbrev pub decreases-opened : goal.decreases-opened
decreases-opened l = 8 * l.levels + 2

abbrev pub decreases-reference : goal.decreases-reference
decreases-reference l = 8 * l.levels + 3

abbrev pub decreases-term : goal.decreases-term
decreases-term l = 8 * l.levels + 4

abbrev pub decreases-terms : goal.decreases-terms
decreases-terms l = 8 * l.levels + 5

abbrev pub decreases-expr : goal.decreases-expr
decreases-expr l = 8 * l.levels + 6

abbrev pub decreases-exprs : goal.decreases-exprs
decreases-exprs l = 8 * l.levels + 7

-- what was read so far, put before what is read from here on, is what is read in all
abbrev pub invariant-exprs-loop-turn : goal.invariant-exprs-loop-turn
invariant-exprs-loop-turn l =
    let one = expr_at (args_at l.levels) in
    with_front l.all (separated_at m.Comma one (l._turn-end - l._turn) l.rest) ≡ separated_at m.Comma one (length l.tokens) l.tokens

abbrev pub invariant-terms-loop-turn : goal.invariant-terms-loop-turn
invariant-terms-loop-turn l =
    let one = term_at (args_at l.levels) in
    with_front l.all (separated_at m.Amp one (l._turn-end - l._turn) l.rest) ≡ separated_at m.Amp one (length l.tokens) l.tokens
