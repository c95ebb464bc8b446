-- A field after the other.
use Rattle.std.proofs.Common.{refl, arith}
use Rattle.rw_types_equations.proofs.Adding.{walked_step, walked_done}
use Rattle.rw_types_equations.proofs.Rows.{drop_next, number_next}
use Rattle.rw_types_equations.proofs.Names.{field_step, fields_done}
use Rattle.rw_types_equations.proofs.name.add_fields.Goals as goal

pub loop-i-preserved : goal.loop-i-preserved
loop-i-preserved c = walked_step _ _ _ _ _ _ _ c.loop-i.invariant c.in_ok-equate.ensures
    (field_step c.args.names.now _ _ _ _ _ _ _ (number_next c.args.parts.now c.loop-i.i _ (omega arith) refl) (drop_next c.args.takes.now c.loop-i.i _ _ (omega arith) refl c.index-takes-i.is) c.in_ok-field.ensures)

pub returns : goal.returns
returns c = walked_done _ _ _ _ c.loop-i.invariant (fields_done _ _ _ _ c.requires c.loop-i-test.false)
