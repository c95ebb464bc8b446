-- The names that were passed have no event.
use Rattle.std.proofs.Common.{◌≡◌, drop}
use Rattle.std.specs.List.{list_any}
use Rattle.vh_tree.specs.DeltaCycle.{has_event}
use Rattle.vh_tree_plain.proofs.process.has_turn.Given as goal

abbrev pub invariant-loop-name : goal.invariant-loop-name
invariant-loop-name l = list_any (has_event l.moment) (drop l.name-index l.process.sensitive) ≡ list_any (has_event l.moment) l.process.sensitive
