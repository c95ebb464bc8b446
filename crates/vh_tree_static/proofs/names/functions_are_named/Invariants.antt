-- All that were passed are named well.
use Rattle.std.proofs.Common.{◌≡◌, drop}
use Rattle.std.specs.List.{list_all}
use Rattle.vh_tree.specs.StaticRules.{functions_of}
use Rattle.vh_tree_static.specs.Named.{function_well}
use Rattle.rw_base_tables.specs.Tables.{known_in}
use Rattle.vh_tree_static.proofs.names.functions_are_named.Given as goal

abbrev pub invariant-loop-item : goal.invariant-loop-item
invariant-loop-item l =
    let well = function_well (known_in l.declared) (known_in l.arities) in
    list_all well (functions_of (drop l.item-index l.items)) ≡ list_all well (functions_of l.items)
