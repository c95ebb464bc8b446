-- The table says what the uses say.
use Rattle.rw_types_world.proofs.Using.{ok_by}
use Rattle.rw_types_world.proofs.kinds.kinds_in.Goals as goal

pub returns : goal.returns
returns c = ok_by c.listed_kinds.result _ _ c.args.variables.now c.in_ok-table.ensures c.listed_kinds.ensures
