-- All that were passed are heard.
use Rattle.std.proofs.Common.{◌≡◌, drop, is_some}
use Rattle.std.specs.List.{list_all}
use Rattle.vh_tree.specs.Bits.{Bytes}
use Rattle.rw_base_tables.specs.Tables.{known_in}
use Rattle.vh_tree_static.proofs.names.all_heard.Given as goal

abbrev pub invariant-loop-name : goal.invariant-loop-name
invariant-loop-name l =
    let heard = λ (x : Bytes). is_some (known_in l.heard x) in
    list_all heard (drop l.name-index l.names) ≡ list_all heard l.names
