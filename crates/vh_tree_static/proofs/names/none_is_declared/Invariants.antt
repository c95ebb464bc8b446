-- None that was passed is declared.
use Rattle.std.proofs.Common.{◌≡◌, drop, is_some, not}
use Rattle.std.specs.List.{list_all}
use Rattle.vh_tree.specs.Bits.{Bytes}
use Rattle.rw_base_tables.specs.Tables.{known_in}
use Rattle.vh_tree_static.proofs.names.none_is_declared.Given as goal

abbrev pub invariant-loop-name : goal.invariant-loop-name
invariant-loop-name l =
    let new = λ (x : Bytes). not (is_some (known_in l.declared x)) in
    list_all new (drop l.name-index l.names) ≡ list_all new l.names
