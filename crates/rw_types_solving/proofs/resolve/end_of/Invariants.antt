-- What the loop keeps, and why it ends: links lead to lower variables.
use Rattle.std.proofs.Common.{◌≡◌, ℕ}
use Rattle.rw_types_solving.specs.Types.{Ty}
use Rattle.rw_types_solving.specs.Tables.{equations, Follows}
use Rattle.rw_types_solving.proofs.resolve.end_of.Given as goal

abbrev pub invariant-links : goal.invariant-links
invariant-links l = (s : ℕ → Ty) → Follows (equations l.entries) s → s l.from ≡ s l.x

abbrev pub decreases-links : goal.decreases-links
decreases-links l = l.x
