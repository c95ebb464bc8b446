-- What is made, before what is left, is the whole.
use Rattle.std.proofs.Common.{◌≡◌, ◌++◌, drop, map}
use Rattle.rw_types_solving.specs.Types.{plains, apply, var}
use Rattle.rw_types_rules.specs.WellTyped.{given}
use Rattle.rw_types_equations.proofs.scheme.+renewing.Given as goal

abbrev pub invariant-all_renewed-loop-term : goal.invariant-all_renewed-loop-term
invariant-all_renewed-loop-term l = plains l.all ++ map (apply (given (map var l.names))) (plains (drop l.term-index l.terms)) ≡ map (apply (given (map var l.names))) (plains l.terms)
