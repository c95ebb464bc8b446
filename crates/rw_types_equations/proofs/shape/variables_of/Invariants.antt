-- What is made, before what is left, is the whole.
use Rattle.std.proofs.Common.{◌≡◌, ◌++◌, drop, map}
use Rattle.rw_types_solving.specs.Types.{plains, var}
use Rattle.rw_types_equations.proofs.shape.variables_of.Given as goal

abbrev pub invariant-loop-number : goal.invariant-loop-number
invariant-loop-number l = plains l.parts ++ map var (drop l.number-index l.numbers) ≡ map var l.numbers
