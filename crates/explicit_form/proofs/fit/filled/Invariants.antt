use Rattle.std.proofs.Common.{◌≡◌, drop, take, map, is_some}
use Rattle.std.specs.Prelude.{unwrap_or}
use Rattle.std.specs.List.{list_all}
use Rattle.explicit_form.proofs.fit.filled.Given as goal

-- the slots so far are full, and what they hold stands in order
abbrev pub invariant-loop-slot : goal.invariant-loop-slot
invariant-loop-slot l = record {
  full : list_all is_some l.slots ≡ list_all is_some (drop l.slot-index l.slots);
  next : l.next ≡ map (λ o. unwrap_or o 0) (take l.slot-index l.slots);
}
