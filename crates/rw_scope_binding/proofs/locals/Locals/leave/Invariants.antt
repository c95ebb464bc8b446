-- What the loop keeps: the names to be left are the lowest ones of those that are there.
use Rattle.std.proofs.Common.{◌≡◌, length}
use Rattle.rw_scope_binding.specs.Stack.{lowest}
use Rattle.rw_scope_binding.proofs.locals.Locals.leave.Given as goal

abbrev pub invariant-loop-self : goal.invariant-loop-self
invariant-loop-self l = lowest l.depth l.self ≡ lowest l.depth l.fn.self

abbrev pub decreases-loop-self : goal.decreases-loop-self
decreases-loop-self l = length l.self
