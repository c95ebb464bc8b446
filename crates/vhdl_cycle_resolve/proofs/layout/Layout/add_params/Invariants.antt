use Rattle.std.proofs.Common.{drop}
use Rattle.vh_tree.specs.StaticRules.{parameter_vars}
use Rattle.vhdl_cycle_resolve.specs.Laid.{IsLaid}
use Rattle.vhdl_cycle_resolve.specs.declared.layout.Layout.{Layout}
use Rattle.vhdl_cycle_resolve.proofs.layout.Layout.add_params.Given as goal

abbrev pub invariant-loop-i : goal.invariant-loop-i
invariant-loop-i l = (end : Layout) → IsLaid l.self (parameter_vars (drop l.i l.params) (drop l.i l.vars)) end → IsLaid l.fn.self (parameter_vars l.params l.vars) end
