-- What is there, before what is to come, is the whole.
use Rattle.std.proofs.Common.{◌≡◌, ◌-◌, ◌++◌, suc}
use Rattle.rw_types_equations.specs.Numbered.{numbers_from, argument_numbers}
use Rattle.rw_types_equations.proofs.scheme.argument_names.Given as goal

abbrev pub invariant-loop-done : goal.invariant-loop-done
invariant-loop-done l = l.names ++ numbers_from (suc l.last) (l.fn.at.arguments - l.done) ≡ argument_numbers l.fn.at
