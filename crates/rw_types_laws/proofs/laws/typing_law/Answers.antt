-- Number by number.
use Rattle.rw_types_laws.proofs.Typings.{typing_kept}
use Rattle.rw_types_laws.proofs.laws.typing_law.Goals as goal

pub returns : goal.returns
returns c = typing_kept
