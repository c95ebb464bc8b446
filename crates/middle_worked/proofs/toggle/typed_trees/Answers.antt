-- The plan is well typed, by the proof that stands beside.
use Rattle.middle_worked.proofs.Typing.{plan_typed}
use Rattle.middle_worked.proofs.toggle.typed_trees.Goals as goal

pub returns : goal.returns
returns c = plan_typed
