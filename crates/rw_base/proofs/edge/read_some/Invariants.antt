use Rattle.std.proofs.Common.{◌≡◌, ◌≤◌, ◌-◌, length}
use Rattle.std.specs.Io.KnownBytes.{Consumes}
use Rattle.rw_base.proofs.edge.read_some.Given as goal

abbrev pub invariant-loop-piece : goal.invariant-loop-piece
invariant-loop-piece g l =
    (l.faults ≡ l.fn.faults) × (length l.found.items ≤ l.most) × Consumes (g.F.Read.remaining l.initial.file) (g.F.Read.remaining l.file) l.found.items

abbrev pub decreases-loop-piece : goal.decreases-loop-piece
decreases-loop-piece g l = l.most - length l.found.items
