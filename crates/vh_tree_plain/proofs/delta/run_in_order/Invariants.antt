-- The processes left, from here, do what all do from the start.
use Rattle.std.proofs.Common.{◌≡◌, drop}
use Rattle.vh_tree.specs.Functions.{calls_of}
use Rattle.vh_tree.specs.DeltaCycle.{all_effects}
use Rattle.vh_tree_plain.proofs.delta.run_in_order.Given as goal

abbrev pub invariant-loop-process : goal.invariant-loop-process
invariant-loop-process l =
    all_effects (calls_of l.items) l.moment (drop l.process-index l.order) l.wires.items ≡ all_effects (calls_of l.items) l.moment l.order l.fn.wires.items
