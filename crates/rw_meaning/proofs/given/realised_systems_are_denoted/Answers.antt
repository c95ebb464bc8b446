-- A system that is realised is denoted.
use Rattle.rw_meaning.proofs.Acting.{realised}
use Rattle.rw_meaning.proofs.given.realised_systems_are_denoted.Goals as goal

pub returns : goal.returns
returns g c = λ program first s. realised program first s
