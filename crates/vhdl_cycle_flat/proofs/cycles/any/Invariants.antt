use Rattle.std.proofs.Common.{◌≡◌, drop, Bool}
use Rattle.std.specs.List.{list_any}
use Rattle.vhdl_cycle_flat.proofs.cycles.any.Given as goal

abbrev pub invariant-loop-p : goal.invariant-loop-p
invariant-loop-p l = list_any (λ (p : Bool). p) (drop l.p-index l.pending) ≡ list_any (λ (p : Bool). p) l.pending
