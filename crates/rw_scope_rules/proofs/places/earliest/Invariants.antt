-- What the loop keeps.
use Rattle.std.proofs.Common.{◌≡◌, ◌≤◌, drop, length}
use Rattle.rw_scope_rules.specs.Names.{earliest}
use Rattle.rw_scope_rules.proofs.places.earliest.Given as goal

-- the first so far is that of the places from here on
abbrev pub invariant-loop-at : goal.invariant-loop-at
invariant-loop-at l = record { within : l.at ≤ length l.places; first : l.first ≡ earliest (drop l.at l.places) }

abbrev pub decreases-loop-at : goal.decreases-loop-at
decreases-loop-at l = l.at
