-- What is added, and what is left, is the whole.
use Rattle.std.proofs.Common.{◌≡◌, map, drop}
use Rattle.rw_types_solving.specs.Types.{plains, apply}
use Rattle.rw_types_rules.specs.WellTyped.{given}
use Rattle.rw_types_equations.proofs.Adding.{Walked}
use Rattle.rw_types_equations.proofs.name.add_fields.Given as goal

abbrev pub invariant-loop-i : goal.invariant-loop-i
invariant-loop-i l = Walked l.fn.out l.out (λ t. map t l.parts ≡ map (apply (given (map t l.names))) (plains l.takes)) (λ t. map t (drop l.i l.parts) ≡ map (apply (given (map t l.names))) (plains (drop l.i l.takes)))
