-- As many steps as there are data types are enough.
use Rattle.rw_scope_kinds.proofs.Ways.{however_long}
use Rattle.rw_scope_kinds.proofs.laws.recursion_law.Goals as goal

pub returns : goal.returns
returns c = however_long
