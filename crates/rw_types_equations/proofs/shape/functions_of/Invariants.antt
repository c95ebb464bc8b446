-- The last arguments stand before the result.
use Rattle.std.proofs.Common.{◌≡◌, ◌-◌, length, drop, map}
use Rattle.rw_types_solving.specs.Types.{plain, var}
use Rattle.rw_types_rules.specs.Words.{functions}
use Rattle.rw_types_equations.proofs.shape.functions_of.Given as goal

abbrev pub invariant-loop-done : goal.invariant-loop-done
invariant-loop-done l = plain l.whole ≡ functions (map var (drop (length l.numbers - l.done) l.numbers)) (var l.to)
