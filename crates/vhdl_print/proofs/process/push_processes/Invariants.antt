-- What is appended so far, and what is to come, is the whole.
use Rattle.std.proofs.Common.{◌≡◌, ◌++◌, map, drop}
use Rattle.vh_tree.specs.Canonical.{joined, process_tokens, spelled}
use Rattle.vhdl_print.proofs.process.push_processes.Given as goal

abbrev pub invariant-loop-process : goal.invariant-loop-process
invariant-loop-process l =
    l.text.items ++ spelled (joined (map process_tokens (drop l.process-index l.processes))) ≡ l.fn.text.items ++ spelled (joined (map process_tokens l.processes))
