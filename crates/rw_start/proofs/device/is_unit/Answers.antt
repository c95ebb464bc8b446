-- A tuple of nothing.
use Rattle.rw_start.proofs.Types.{unit_if_empty}
use Rattle.rw_start.proofs.device.is_unit.Goals as goal

pub returns-in-Tuple : goal.returns-in-Tuple
returns-in-Tuple c = unit_if_empty c.args.ty.now c.in-Tuple.parts c.is_empty.result c.in-Tuple.is c.is_empty.ensures
