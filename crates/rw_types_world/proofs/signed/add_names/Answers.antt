-- One name more.
use Rattle.std.proofs.Common.{refl}
use Rattle.rw_types_world.proofs.First.{one_name}
use Rattle.rw_types_world.proofs.signed.add_names.Goals as goal

pub loop-name-preserved : goal.loop-name-preserved
loop-name-preserved c =
    one_name c.args.table.now c.add.new.self c.loop-name.table c.args.names.now c.loop-name.name-index c.name-item.result c.in_ok-copied.field-0 (record { ty = c.args.ty }) c.args.ty.now
    c.loop-name-test.true c.name-item.is c.in_ok-copied.ensures refl c.in_ok-add.ensures c.loop-name.invariant
