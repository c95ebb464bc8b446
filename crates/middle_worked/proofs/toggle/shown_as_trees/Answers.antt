-- Its outputs, computed.
use Rattle.std.proofs.Common.{refl}
use Rattle.middle_worked.proofs.toggle.shown_as_trees.Goals as goal

pub returns : goal.returns
returns c = refl
