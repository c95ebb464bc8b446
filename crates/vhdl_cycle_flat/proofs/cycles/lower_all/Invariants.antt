use Rattle.std.proofs.Common.{◌≡◌, replicate, take, false}
use Rattle.vhdl_cycle_flat.proofs.cycles.lower_all.Given as goal

abbrev pub invariant-loop-p : goal.invariant-loop-p
invariant-loop-p l = take l.p-index l.pending ≡ replicate l.p-index false
