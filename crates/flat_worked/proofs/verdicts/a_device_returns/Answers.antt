-- The verdict, by the proof that stands beside.
use Rattle.flat_worked.proofs.Refusing.{returns_early}
use Rattle.flat_worked.proofs.verdicts.a_device_returns.Goals as goal

pub returns : goal.returns
returns c = returns_early
