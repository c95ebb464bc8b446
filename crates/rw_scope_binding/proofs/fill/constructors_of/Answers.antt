-- One declaration more, from the last on.
use Rattle.std.proofs.Common.{◌-◌, arith}
use Rattle.rw_scope_rules.specs.Bindings.{declared_constructors}
use Rattle.rw_scope_binding.proofs.Filling.{declared_more, data_put}
use Rattle.rw_scope_binding.proofs.fill.constructors_of.Goals as goal

pub loop-at-preserved-in_ok-put_constructors : goal.loop-at-preserved-in_ok-put_constructors
loop-at-preserved-in_ok-put_constructors c = record {
  within = omega arith;
  told = λ x. declared_more declared_constructors c.args.decls.now (c.loop-at.at - 1) c.loop-at.at c.index-decls-at.result c.loop-at.table c.put_constructors.new.table x
      (omega arith) (omega arith) c.index-decls-at.is (c.loop-at.invariant.told x)
      (data_put c.index-decls-at.result _ _ (c.loop-at.at - 1) _ _ c.loop-at.table _ x c.in-Data.is c.in_ok-number.ensures c.as_slice.ensures (c.in_ok-put_constructors.ensures x));
}
