use Rattle.std.proofs.Common.{rules}
use Rattle.vhdl_cycle_flat.proofs.Places.{bit_written}
use Rattle.vhdl_cycle_flat.proofs.leaves.put.Goals as goal

pub returns-then-start-frame : goal.returns-then-start-frame
returns-then-start-frame c =
    bit_written c.args.frame.now c.args.bits.now c.args.from c.min-start.result (search rules) (search rules) (search rules) (search rules)
