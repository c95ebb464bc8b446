-- Each call has one input less.
use Rattle.std.proofs.Common.{length}
use Rattle.vh_tree_plain.proofs.changes.+readings.Given as goal

abbrev pub decreases-readings : goal.decreases-readings
decreases-readings l = length l.inputs.now
