-- Seen one after the other.
use Rattle.flat_worked.proofs.Flattening.{tabled}
use Rattle.flat_worked.proofs.flattened.data_types_are_listed.Goals as goal

pub returns : goal.returns
returns c = tabled
