use Rattle.std.proofs.Common.{◌≡◌, length, ◌-◌}
use Rattle.std.specs.Prelude.{codes}
use Rattle.rw_lex.specs.declared.token.TokenKind.TheVariants.{Constructor}
use Rattle.explicit_form.specs.Words.{words_of, operator}
use Rattle.explicit_form.specs.Read.{separated_at, name_at}
use Rattle.explicit_form.proofs.Turns.{with_front}
use Rattle.explicit_form.proofs.read.read_constructors.Given as goal

-- what was read so far, put before what is read from here on, is what is read in all
abbrev pub invariant-loop-turn : goal.invariant-loop-turn
invariant-loop-turn l =
    with_front l.all (separated_at (operator (codes "|")) (name_at Constructor) (l._turn-end - l._turn) (words_of l.rest))
    ≡ separated_at (operator (codes "|")) (name_at Constructor) (length l.tokens) (words_of l.tokens)
