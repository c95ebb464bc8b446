-- No variable has an equation yet.
use Rattle.std.proofs.Common.{◌≡◌, ℕ, None, length}
use Rattle.rw_types_solving.specs.Tables.{equations, type_at}
use Rattle.rw_types_solving.proofs.table.Table.new.Given as goal

abbrev pub invariant-loop : goal.invariant-loop
invariant-loop l = record { as_many : length l.entries ≡ l.counter; free : (x : ℕ) → type_at (equations l.entries) x ≡ None }
