-- One data type more, and at last all.
use Rattle.std.proofs.Common.{arith}
use Rattle.rw_scope_kinds.proofs.Mentioned.{one_number, all_numbers}
use Rattle.rw_scope_kinds.proofs.mentions.numbers.Goals as goal

pub loop-i-preserved : goal.loop-i-preserved
loop-i-preserved c =
    one_number c.args.all.now c.loop-i.i c.index-all-i.result c.in_ok-copied.field-0 c.in_ok-number.field-0 c.loop-i.table c.add.new.self (omega arith) c.index-all-i.is c.in_ok-copied.ensures c.in_ok-number.ensures
    c.in_ok-add.ensures c.loop-i.invariant

pub returns : goal.returns
returns c = all_numbers c.args.all.now c.loop-i.i c.loop-i.table (omega arith) c.loop-i.invariant
