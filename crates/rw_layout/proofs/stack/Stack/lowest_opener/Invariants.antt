-- No opener so far.
use Rattle.std.proofs.Common.{◌≡◌, take, None}
use Rattle.std.specs.Prelude.{reverse}
use Rattle.rw_layout.specs.Layout.{lowest_opener}
use Rattle.rw_layout.proofs.stack.Stack.lowest_opener.Given as goal

abbrev pub invariant-loop-entry : goal.invariant-loop-entry
invariant-loop-entry l = lowest_opener (reverse (take l.entry-index l.entry-items)) ≡ None
