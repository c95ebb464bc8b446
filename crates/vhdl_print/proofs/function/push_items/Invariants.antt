-- What is appended so far, and what is to come, is the whole.
use Rattle.std.proofs.Common.{◌≡◌, ◌++◌, map, drop}
use Rattle.vh_tree.specs.Canonical.{item_tokens, joined, spelled}
use Rattle.vhdl_print.proofs.function.push_items.Given as goal

abbrev pub invariant-loop-item : goal.invariant-loop-item
invariant-loop-item l =
    l.text.items ++ spelled (joined (map item_tokens (drop l.item-index l.items))) ≡ l.fn.text.items ++ spelled (joined (map item_tokens l.items))
