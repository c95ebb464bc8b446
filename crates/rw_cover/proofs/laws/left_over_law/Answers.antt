-- Types are finite.
use Rattle.rw_cover.proofs.LeftOver.{left_over}
use Rattle.rw_cover.proofs.laws.left_over_law.Goals as goal

pub returns : goal.returns
returns c = left_over
