-- Each of those so far is of its sort.
use Rattle.std.proofs.Common.{ℕ, ◌<◌}
use Rattle.rw_types_solving.specs.Types.{meaning}
use Rattle.rw_types_solving.specs.Sorts.{HasSort}
use Rattle.rw_types_solving.specs.Closing.{sort_of}
use Rattle.rw_types_rules.specs.Typings.{heads_of}
use Rattle.rw_types_equations.specs.Seen.{seen_world}
use Rattle.rw_types.proofs.sorted.all_sorted.Given as goal

abbrev pub invariant-loop-i : goal.invariant-loop-i
invariant-loop-i l = (x : ℕ) → x < l.i → HasSort (sort_of l.sorts) (heads_of (seen_world l.world) l.own) (sort_of l.sorts x) (meaning l.terms x)
