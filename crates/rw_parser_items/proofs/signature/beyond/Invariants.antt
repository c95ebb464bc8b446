use Rattle.std.proofs.Common.{◌≡◌, ◌+◌, ◌≤◌, length}
use Rattle.rw_parser_reading.specs.ReadNames.{beyond}
use Rattle.rw_parser_items.proofs.signature.beyond.Given as goal

-- what was passed says nothing of what is beyond
abbrev pub invariant-loop-turn : goal.invariant-loop-turn
invariant-loop-turn l = record {
  same : beyond l.rest ≡ beyond l.tokens;
  shorter : length l.rest + l._turn ≤ length l.tokens;
}
