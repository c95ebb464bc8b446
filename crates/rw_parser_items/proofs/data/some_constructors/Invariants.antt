use Rattle.std.proofs.Common.{◌≡◌, length, ◌-◌}
use Rattle.rw_parser_reading.specs.Read.{separated_at}
use Rattle.rw_parser_grammar.specs.declared.lexeme.Mark.TheVariants as m
use Rattle.rw_parser_reading.specs.Frames.{frames_of_constructor}
use Rattle.rw_parser_reading.specs.ReadDeclarations.{data_constructor_at}
use Rattle.rw_parser_patterns.specs.Given.{counted}
use Rattle.rw_parser_patterns.specs.Depth.{any_type_at}
use Rattle.rw_parser_patterns.proofs.Kept.{with_counted}
use Rattle.rw_parser_items.proofs.data.some_constructors.Given as goal

-- what was read so far, put before what is read from here on, is what is read in all
abbrev pub invariant-loop-turn : goal.invariant-loop-turn
invariant-loop-turn l =
    let one = data_constructor_at any_type_at in
    with_counted l.turn l.all (counted frames_of_constructor l.room (separated_at m.Bar one (l.turn-end - l.turn) l.rest)) ≡ counted frames_of_constructor l.room (separated_at m.Bar one (length l.tokens) l.tokens)
