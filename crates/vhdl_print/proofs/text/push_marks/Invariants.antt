-- What is appended so far, and what is to come, is the whole.
use Rattle.std.proofs.Common.{◌≡◌, ◌++◌, drop}
use Rattle.vh_tree.specs.VToken.{marks}
use Rattle.vh_tree.specs.Canonical.{spelled}
use Rattle.vhdl_print.proofs.text.push_marks.Given as goal

abbrev pub invariant-loop-mark : goal.invariant-loop-mark
invariant-loop-mark l =
    l.text.items ++ spelled (marks (drop l.mark-index l.marks)) ≡ l.fn.text.items ++ spelled (marks l.marks)
