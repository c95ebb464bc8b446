-- What the loop keeps.
use Rattle.std.proofs.Common.{◌≡◌, take, map}
use Rattle.rw_types_solving.specs.Types.{plains, apply, renaming}
use Rattle.rw_types_solving.proofs.term.+renaming.Given as goal

abbrev pub invariant-instances-loop-term : goal.invariant-instances-loop-term
invariant-instances-loop-term l = plains l.all ≡ map (apply (renaming l.names)) (plains (take l.term-index l.terms))
