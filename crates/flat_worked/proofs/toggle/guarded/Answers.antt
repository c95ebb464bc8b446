-- The toggle is guarded.
use Rattle.std.proofs.Common.{refl}
use Rattle.flat_worked.proofs.Guarding.{types, guarded}
use Rattle.flat_worked.proofs.toggle.guarded.Goals as goal

pub returns : goal.returns
returns c = (types, refl, guarded)
