use Rattle.std.proofs.Common.{◌≡◌, ◌++◌, drop}
use Rattle.vhdl_cycle_flat.specs.Resolving.{places_of}
use Rattle.vhdl_cycle_resolve.specs.Over.{slots_in}
use Rattle.vhdl_cycle_resolve.proofs.process.resolve_places.Given as goal

abbrev pub invariant-loop-name : goal.invariant-loop-name
invariant-loop-name l = l.out ++ places_of (slots_in l.slots) (drop l.name-index l.names) ≡ places_of (slots_in l.slots) l.names
