-- What is left tells what the whole does.
use Rattle.std.proofs.Common.{◌≡◌, drop}
use Rattle.rw_types_solving.specs.Types.{plains, tys}
use Rattle.rw_types_solving.specs.Closing.{sort_of}
use Rattle.rw_types_rules.specs.Typings.{heads_of}
use Rattle.rw_types_equations.specs.Seen.{seen_world}
use Rattle.rw_types.specs.Testing.{has_sorts}
use Rattle.rw_types.proofs.sorted.+sorting.Given as goal

abbrev pub invariant-are_sorted-loop-i : goal.invariant-are_sorted-loop-i
invariant-are_sorted-loop-i l =
    has_sorts (sort_of l.sorts) (heads_of (seen_world l.world) l.own) l.head l.i (tys (plains (drop l.i l.parts))) ≡ has_sorts (sort_of l.sorts) (heads_of (seen_world l.world) l.own) l.head 0 (tys (plains l.parts))
