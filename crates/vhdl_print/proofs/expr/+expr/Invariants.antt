-- What is appended so far, and what is to come, is the whole.
use Rattle.std.proofs.Common.{◌≡◌, ◌++◌, map, drop}
use Rattle.vh_tree.specs.Canonical.{each_after, expr_tokens, separated, spelled}
use Rattle.vhdl_print.proofs.expr.+expr.Given as goal

abbrev pub invariant-push_parts-loop-part : goal.invariant-push_parts-loop-part
invariant-push_parts-loop-part l =
    l.text.items ++ spelled (each_after l.between (map expr_tokens (drop l.part-index l.others))) ≡ l.fn.text.items ++ spelled (separated l.between (map expr_tokens l.parts))
