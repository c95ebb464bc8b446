-- Its types are read off by their numbers.
use Rattle.rw_types_numbering.proofs.Filling.{from_assignment}
use Rattle.rw_types_numbering.proofs.definitions.assignment_law.Goals as goal

pub returns : goal.returns
returns c = from_assignment
