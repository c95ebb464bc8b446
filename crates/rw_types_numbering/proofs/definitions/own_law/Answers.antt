-- Declaration by declaration.
use Rattle.rw_types_numbering.proofs.Own.{own_are}
use Rattle.rw_types_numbering.proofs.definitions.own_law.Goals as goal

pub returns : goal.returns
returns c = own_are
