-- What covers at all types covers at these.
use Rattle.rw_cover_laws.proofs.Typable.{typings_match}
use Rattle.rw_cover_laws.proofs.laws.typings_law.Goals as goal

pub returns : goal.returns
returns c = typings_match
