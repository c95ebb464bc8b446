use Rattle.std.proofs.Common.{◌≡◌, ◌-◌, ◌++◌, codes}
use Rattle.rw_gen.specs.Workload.{states_to}
use Rattle.rw_gen.proofs.lines.push_states.Given as goal

abbrev pub invariant-loop-state : goal.invariant-loop-state
invariant-loop-state l = l.text.items ≡ l.fn.text.items ++ (codes "data S = " ++ states_to (l.state - 1))
