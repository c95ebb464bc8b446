-- What is there, before what is left, is the whole.
use Rattle.std.proofs.Common.{◌≡◌, ◌++◌, drop}
use Rattle.rw_types_solving.specs.Types.{plains}
use Rattle.rw_types_rules.specs.Words.{variables_from}
use Rattle.rw_types_world.proofs.made.head_variables.Given as goal

abbrev pub invariant-loop-i : goal.invariant-loop-i
invariant-loop-i l = plains l.variables ++ variables_from l.i (drop l.i l.params) ≡ variables_from 0 l.params
