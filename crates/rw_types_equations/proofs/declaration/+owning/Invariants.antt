-- What is made, before what is left, is the whole.
use Rattle.std.proofs.Common.{◌≡◌, ◌++◌, drop, map}
use Rattle.rw_types_solving.specs.Types.{plains, apply}
use Rattle.rw_types_rules.specs.Words.{unknown}
use Rattle.rw_types_equations.proofs.declaration.+owning.Given as goal

abbrev pub invariant-all_unknown-loop-term : goal.invariant-all_unknown-loop-term
invariant-all_unknown-loop-term l = plains l.all ++ map (apply unknown) (plains (drop l.term-index l.terms)) ≡ map (apply unknown) (plains l.terms)
