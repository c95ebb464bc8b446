-- All that were passed are named well.
use Rattle.std.proofs.Common.{◌≡◌, drop}
use Rattle.std.specs.List.{list_all}
use Rattle.vh_tree_static.specs.Named.{process_well}
use Rattle.rw_base_tables.specs.Tables.{known_in}
use Rattle.vh_tree_static.proofs.names.processes_are_named.Given as goal

abbrev pub invariant-loop-process : goal.invariant-loop-process
invariant-loop-process l = list_all (process_well (known_in l.arities) l.wires) (drop l.process-index l.processes) ≡ list_all (process_well (known_in l.arities) l.wires) l.processes
