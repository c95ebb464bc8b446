-- The variables of one type more.
use Rattle.rw_types_world.proofs.Sights.{one_type_seen}
use Rattle.rw_types_world.proofs.variables.+seeing.Goals as goal

pub add_all_variables-loop-ty-preserved : goal.add_all_variables-loop-ty-preserved
add_all_variables-loop-ty-preserved t c =
    one_type_seen c.loop-ty.names c.add_variables.new.names c.ty-item.result c.args.types.now c.loop-ty.ty-index _ c.loop-ty-test.true c.ty-item.is c.in_ok-add_variables.ensures c.loop-ty.invariant
