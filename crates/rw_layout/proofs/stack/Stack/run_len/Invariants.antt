-- So many entries are of the run, and the run goes on with what is under them.
use Rattle.std.proofs.Common.{◌≡◌, ◌+◌, drop}
use Rattle.std.specs.List.{prefix_len}
use Rattle.rw_layout.specs.Steps.{is_run}
use Rattle.rw_layout.proofs.stack.Stack.run_len.Given as goal

abbrev pub invariant-loop-n : goal.invariant-loop-n
invariant-loop-n l = l.n + prefix_len (is_run l.run) (drop l.n l.self) ≡ prefix_len (is_run l.run) l.self
