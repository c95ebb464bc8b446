-- None of those so far is the name.
use Rattle.std.proofs.Common.{◌≡◌, drop}
use Rattle.rw_types_rules.specs.Written.{variable_from}
use Rattle.rw_types_equations.proofs.written.variable.Given as goal

abbrev pub invariant-loop-other : goal.invariant-loop-other
invariant-loop-other l = variable_from l.at l.name (drop l.other-index l.names) ≡ variable_from 0 l.name l.names
