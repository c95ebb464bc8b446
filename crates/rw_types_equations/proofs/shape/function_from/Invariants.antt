-- The last arguments stand before the result.
use Rattle.std.proofs.Common.{◌≡◌, ◌-◌, length, drop}
use Rattle.rw_types_solving.specs.Types.{plain, plains}
use Rattle.rw_types_rules.specs.Words.{functions}
use Rattle.rw_types_equations.proofs.shape.function_from.Given as goal

abbrev pub invariant-loop-done : goal.invariant-loop-done
invariant-loop-done l = plain l.whole ≡ functions (plains (drop (length l.takes - l.done) l.takes)) (plain l.to)
