-- What the loop keeps.
use Rattle.std.proofs.Common.{◌≡◌, drop}
use Rattle.rw_types_solving.specs.Types.{meaning}
use Rattle.rw_types_solving.specs.Conditions.{hold, any, listed}
use Rattle.rw_types_solving.proofs.condition.all_hold.Given as goal

abbrev pub invariant-loop-x : goal.invariant-loop-x
invariant-loop-x l = hold any (listed l.states) (meaning l.types) (drop l.x-index l.conditions) ≡ hold any (listed l.states) (meaning l.types) l.conditions
