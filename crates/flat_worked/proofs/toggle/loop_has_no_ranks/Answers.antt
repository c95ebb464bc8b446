-- A loop has no ranks.
use Rattle.flat_worked.proofs.Guarding.{never_ends}
use Rattle.flat_worked.proofs.toggle.loop_has_no_ranks.Goals as goal

pub returns : goal.returns
returns c = never_ends
