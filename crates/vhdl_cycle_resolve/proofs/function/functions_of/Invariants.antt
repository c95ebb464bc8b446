use Rattle.std.proofs.Common.{drop}
use Rattle.vhdl_cycle_flat.specs.Names.{no_frames}
use Rattle.vhdl_cycle_resolve.specs.Framed.{IsFramed}
use Rattle.vhdl_cycle_resolve.specs.Over.{frames_in}
use Rattle.vhdl_cycle_resolve.specs.declared.function.Functions.{Functions}
use Rattle.vhdl_cycle_resolve.proofs.function.functions_of.Given as goal

abbrev pub invariant-loop-item : goal.invariant-loop-item
invariant-loop-item l = (end : Functions) → IsFramed (frames_in l.funs) l.store (drop l.item-index l.items) end → IsFramed no_frames 0 l.items end
