-- Marks are added that say nothing.
use Rattle.std.proofs.Common.{◌≡◌, ◌≤◌, ℕ, length}
use Rattle.specialise_tables.specs.Tabled.{is_marked}
use Rattle.specialise_tables.proofs.marks.reach.Given as goal

abbrev pub invariant-loop-i : goal.invariant-loop-i
invariant-loop-i l = record {
  long : l._i ≤ length l.marks.items;
  same : (k : ℕ) → is_marked l.marks.items k ≡ is_marked l.fn.marks.items k;
}
