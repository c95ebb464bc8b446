-- One use more agrees.
use Rattle.std.proofs.Common.{arith}
use Rattle.rw_scope_kinds.proofs.Using.{one_agrees, one_known}
use Rattle.rw_scope_kinds.proofs.uses.all_agree.Goals as goal

pub loop-one-preserved : goal.loop-one-preserved
loop-one-preserved c = record {
  answer =
      one_agrees c.args.uses.now c.loop-one.one-index c.one-item.result (omega arith) c.one-item.is c.in_ok-agrees.field-0 c.loop-one.firsts _ c.if-not-branch.false c.in_ok-agrees.ensures.agrees c.loop-one.invariant.firsts
      c.loop-one.invariant.answer;
  firsts = one_known c.args.uses.now c.loop-one.one-index c.one-item.result (omega arith) c.one-item.is c.loop-one.firsts c.agrees.new.firsts c.loop-one.invariant.firsts c.in_ok-agrees.ensures.firsts;
}
