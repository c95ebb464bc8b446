-- All that were passed are named well.
use Rattle.std.proofs.Common.{◌≡◌, drop, map}
use Rattle.vh_tree.specs.StaticRules.{all_true, names_well}
use Rattle.vh_tree_static.specs.Rules.{names_over}
use Rattle.rw_base_tables.specs.Tables.{known_in}
use Rattle.vh_tree_static.proofs.names.+expr.Given as goal

abbrev pub invariant-all_are_named-loop-part : goal.invariant-all_are_named-loop-part
invariant-all_are_named-loop-part l =
    let well = names_well (names_over (known_in l.arities) (known_in l.vars)) in
    all_true (map well (drop l.part-index l.parts)) ≡ all_true (map well l.parts)
