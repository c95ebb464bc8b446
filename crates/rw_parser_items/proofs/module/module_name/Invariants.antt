use Rattle.std.proofs.Common.{◌≡◌, length, ◌-◌, ◌≤◌}
use Rattle.rw_parser_reading.specs.ReadDeclarations.{module_parts_at}
use Rattle.rw_parser_patterns.proofs.Turns.{with_front}
use Rattle.rw_parser_items.proofs.module.module_name.Given as goal

-- what was read so far, put before what is read from here on, is what is read in all
abbrev pub invariant-loop-turn : goal.invariant-loop-turn
invariant-loop-turn l = record {
  read : with_front l.all (module_parts_at (l._turn-end - l._turn) l.rest) ≡ module_parts_at (length l.tokens) l.tokens;
  shorter : length l.rest ≤ length l.tokens;
}
