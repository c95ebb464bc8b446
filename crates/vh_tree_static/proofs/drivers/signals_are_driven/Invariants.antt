-- Each that was passed has one driver.
use Rattle.std.proofs.Common.{◌≡◌, drop}
use Rattle.std.specs.List.{list_all}
use Rattle.vh_tree.specs.Bits.{Bytes}
use Rattle.vh_tree.specs.StaticRules.{signal_names}
use Rattle.vh_tree_static.specs.Drivers.{is_one}
use Rattle.rw_base_tables.specs.Tables.{known_in}
use Rattle.vh_tree_static.proofs.drivers.signals_are_driven.Given as goal

abbrev pub invariant-loop-item : goal.invariant-loop-item
invariant-loop-item l =
    let driven = λ (x : Bytes). is_one (known_in l.drivers x) in
    list_all driven (signal_names (drop l.item-index l.items)) ≡ list_all driven (signal_names l.items)
