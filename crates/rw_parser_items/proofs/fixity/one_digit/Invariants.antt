use Rattle.std.proofs.Common.{◌≡◌, ◌+◌, ◌≤◌, length}
use Rattle.rw_parser_grammar.specs.Declarations.{strength_of}
use Rattle.rw_parser_items.proofs.fixity.one_digit.Given as goal

-- zeros before other digits say nothing
abbrev pub invariant-loop-turn : goal.invariant-loop-turn
invariant-loop-turn l = record {
  same : strength_of l.left ≡ strength_of l.digits;
  shorter : length l.left + l._turn ≤ length l.digits;
}
