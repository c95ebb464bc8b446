-- Nothing that was passed is pending.
use Rattle.std.proofs.Common.{◌≡◌, drop, is_none}
use Rattle.std.specs.List.{list_all}
use Rattle.vh_tree.specs.declared.wire.Wire.{Wire}
use Rattle.vh_tree_plain.proofs.delta.quiet.Given as goal

abbrev pub invariant-loop-wire : goal.invariant-loop-wire
invariant-loop-wire l =
    let p = λ (w : Wire). is_none w.pending in
    list_all p (drop l.wire-index l.state.wires) ≡ list_all p l.state.wires
