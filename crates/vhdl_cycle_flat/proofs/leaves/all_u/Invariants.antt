use Rattle.std.proofs.Common.{◌≡◌, replicate, take}
use Rattle.rw_base.specs.declared.bit.Bit9.TheVariants.{U}
use Rattle.vhdl_cycle_flat.proofs.leaves.all_u.Given as goal

abbrev pub invariant-loop-v : goal.invariant-loop-v
invariant-loop-v l = take l.v-index l.vars ≡ replicate l.v-index U
