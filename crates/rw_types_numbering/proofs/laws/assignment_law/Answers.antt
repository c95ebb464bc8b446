-- Typed trees are those of rw_types_numbering.
use Rattle.rw_types_numbering.proofs.Typed.{assigned}
use Rattle.rw_types_numbering.proofs.laws.assignment_law.Goals as goal

pub returns : goal.returns
returns c = assigned
