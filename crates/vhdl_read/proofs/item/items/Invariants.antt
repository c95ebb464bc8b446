use Rattle.std.proofs.Common.{◌≡◌, length, ◌-◌}
use Rattle.vh_tree_reading.specs.Read.{many_at}
use Rattle.vh_tree_reading.specs.ReadDesign.{begins_item, item_at}
use Rattle.vhdl_read.proofs.Turns.{with_front}
use Rattle.vhdl_read.proofs.item.items.Given as goal

-- what was read so far, put before what is read from here on, is what is read in all
abbrev pub invariant-loop-turn : goal.invariant-loop-turn
invariant-loop-turn l = with_front l.all (many_at begins_item (item_at l.levels) (l._turn-end - l._turn) l.rest) ≡ many_at begins_item (item_at l.levels) (length l.tokens) l.tokens
