use Rattle.std.proofs.Common.{drop}
use Rattle.vh_tree.specs.StaticRules.{declared_signals}
use Rattle.vhdl_cycle_resolve.specs.Laid.{IsLaid}
use Rattle.vhdl_cycle_resolve.specs.declared.layout.Layout.{Layout}
use Rattle.vhdl_cycle_resolve.proofs.layout.Layout.add_signals.Given as goal

abbrev pub invariant-loop-item : goal.invariant-loop-item
invariant-loop-item l = (end : Layout) → IsLaid l.self (declared_signals (drop l.item-index l.items)) end → IsLaid l.fn.self (declared_signals l.items) end
