-- The parts so far have numbers.
use Rattle.std.proofs.Common.{◌≡◌, map, take, get_or}
use Rattle.specialise_types.proofs.closing.parts_at.Given as goal

abbrev pub invariant-loop-part : goal.invariant-loop-part
invariant-loop-part l = l.all.items ≡ map (λ k. get_or l.made k 0) (take l.part-index l.parts)
