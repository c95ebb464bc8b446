use Rattle.std.proofs.Common.{◌≡◌, length, ◌-◌}
use Rattle.std.specs.Prelude.{codes}
use Rattle.explicit_form.specs.Words.{words_of, special}
use Rattle.explicit_form.specs.Read.{many_at, function_at}
use Rattle.explicit_form.proofs.Turns.{with_front}
use Rattle.explicit_form.proofs.read.read_functions.Given as goal

-- what was read so far, put before what is read from here on, is what is read in all
abbrev pub invariant-loop-turn : goal.invariant-loop-turn
invariant-loop-turn l =
    with_front l.all (many_at (special (codes ";")) (function_at l.ports) (l._turn-end - l._turn) (words_of l.rest))
    ≡ many_at (special (codes ";")) (function_at l.ports) (length l.tokens) (words_of l.tokens)
