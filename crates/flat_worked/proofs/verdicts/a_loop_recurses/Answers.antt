-- The verdict, by the proof that stands beside.
use Rattle.flat_worked.proofs.Refusing.{recurses}
use Rattle.flat_worked.proofs.verdicts.a_loop_recurses.Goals as goal

pub returns : goal.returns
returns c = recurses
