-- With the processes that are left, what is known is what all give.
use Rattle.std.proofs.Common.{◌≡◌, drop}
use Rattle.vh_tree.specs.Bits.{Bytes}
use Rattle.vh_tree_static.specs.Drivers.{and_processes, driver_in}
use Rattle.rw_base_tables.specs.Tables.{known_in}
use Rattle.vh_tree_static.proofs.drivers.drivers_of.Given as goal

abbrev pub invariant-loop-place : goal.invariant-loop-place
invariant-loop-place l = (x : Bytes) → and_processes x l.place (drop l.place l.processes) (known_in l.drivers x) ≡ driver_in l.processes x
