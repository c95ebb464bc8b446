use Rattle.std.proofs.Common.{◌≡◌, drop}
use Rattle.vhdl_cycle_flat.specs.Delta.{has_event}
use Rattle.vhdl_cycle_flat.proofs.delta.event.Given as goal

abbrev pub invariant-loop-place : goal.invariant-loop-place
invariant-loop-place l = has_event l.now l.before (drop l.place-index l.places) ≡ has_event l.now l.before l.places
