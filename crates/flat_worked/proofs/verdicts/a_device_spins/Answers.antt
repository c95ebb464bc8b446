-- The verdict, by the proof that stands beside.
use Rattle.flat_worked.proofs.Refusing.{spins}
use Rattle.flat_worked.proofs.verdicts.a_device_spins.Goals as goal

pub returns : goal.returns
returns c = spins
