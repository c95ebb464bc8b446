-- What the loop keeps.
use Rattle.std.proofs.Common.{◌≡◌, ◌+◌, ◌<◌, ◌^◌, drop}
use Rattle.rw_types_solving.specs.Types.{plains, tys, nodes_in}
use Rattle.rw_types_solving.specs.Inside.{capped}
use Rattle.rw_types_solving.proofs.term.+counting.Given as goal

abbrev pub invariant-count_all-loop-term : goal.invariant-count_all-loop-term
invariant-count_all-loop-term l = (capped (l.sum + nodes_in (tys (plains (drop l.term-index l.terms)))) ≡ capped (nodes_in (tys (plains l.terms)))) × (l.sum < 2 ^ 64)
