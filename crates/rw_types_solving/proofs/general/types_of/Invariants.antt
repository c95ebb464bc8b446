-- What the loop keeps: the types of the variables so far.
use Rattle.std.proofs.Common.{◌≡◌, ℕ, ◌<◌, length}
use Rattle.rw_types_solving.specs.Types.{Ty, meaning}
use Rattle.rw_types_solving.specs.Tables.{equations, Follows, Small}
use Rattle.rw_types_solving.proofs.general.types_of.Given as goal

abbrev pub invariant-loop-x : goal.invariant-loop-x
invariant-loop-x l = record {
  as_many : length l.all ≡ l.x;
  made : (s : ℕ → Ty) → Follows (equations l.entries) s → (y : ℕ) → y < l.x → meaning l.all y ≡ s y;
  small : Small l.x (meaning l.all);
}
