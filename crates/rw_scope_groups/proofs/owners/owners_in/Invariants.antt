-- What the loop keeps: what the table says, before what is left, is the whole.
use Rattle.std.proofs.Common.{◌≡◌, ◌++◌, ℕ, drop, map}
use Rattle.rw_tree.specs.Views.{itself}
use Rattle.rw_tree.specs.Trees.{local_binding}
use Rattle.rw_scope_rules.specs.Groups.{own_numbers}
use Rattle.rw_scope_groups.specs.Rows.{owners, found_in}
use Rattle.rw_scope_groups.proofs.owners.owners_in.Given as goal

abbrev pub invariant-loop-i : goal.invariant-loop-i
invariant-loop-i l =
    (k : ℕ) → found_in l.made k ++ owners k l.i (map own_numbers (map (local_binding itself) (drop l.i l.bindings)))
    ≡ owners k 0 (map own_numbers (map (local_binding itself) l.bindings))
