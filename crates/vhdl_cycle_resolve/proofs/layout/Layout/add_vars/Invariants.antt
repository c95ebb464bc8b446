use Rattle.std.proofs.Common.{drop}
use Rattle.vhdl_cycle_resolve.specs.Laid.{IsLaid}
use Rattle.vhdl_cycle_resolve.specs.declared.layout.Layout.{Layout}
use Rattle.vhdl_cycle_resolve.proofs.layout.Layout.add_vars.Given as goal

abbrev pub invariant-loop-var : goal.invariant-loop-var
invariant-loop-var l = (end : Layout) → IsLaid l.self (drop l.var-index l.vars) end → IsLaid l.fn.self l.vars end
