-- What the loop keeps: the table, before the data types that are left, says what all of them say.
use Rattle.std.proofs.Common.{◌≡◌, ◌++◌, ℕ, List, drop, map}
use Rattle.rw_scope_rules.specs.Names.{Bytes, first_named}
use Rattle.rw_scope_kinds.specs.Mentions.{numbered, plain_made}
use Rattle.rw_scope_kinds.proofs.mentions.numbers.Given as goal

abbrev pub invariant-loop-i : goal.invariant-loop-i
invariant-loop-i l =
    (x : Bytes) (rest : List (Bytes × ℕ)) → first_named x (l.table ++ (numbered l.i (map plain_made (drop l.i l.all)) ++ rest)) ≡ first_named x (numbered 0 (map plain_made l.all) ++ rest)
