-- What the loop keeps: what the table says, before what is left, is the whole.
use Rattle.std.proofs.Common.{◌≡◌, ◌++◌, ℕ, drop}
use Rattle.rw_scope_groups.specs.Rows.{owners_here, found_in}
use Rattle.rw_scope_groups.proofs.owners.Owners.add_all.Given as goal

abbrev pub invariant-loop-one : goal.invariant-loop-one
invariant-loop-one l = (k : ℕ) → found_in l.self k ++ owners_here k l.place (drop l.one-index l.bound) ≡ found_in l.fn.self k ++ owners_here k l.place l.bound
