use Rattle.std.proofs.Common.{◌≡◌, length, arith}
use Rattle.rw_trace.proofs.Cutting.{cut_at, none_further, one_line_at}
use Rattle.rw_trace.proofs.lines.line_length.Goals as goal

pub returns-then-bytes-at-eq10-clause-lines : goal.returns-then-bytes-at-eq10-clause-lines
returns-then-bytes-at-eq10-clause-lines c = cut_at c.args.bytes.now c.loop-at.at c.loop-at-test.true c.if-bytes-at-eq10.true c.loop-at.invariant

pub loop-at-preserved : goal.loop-at-preserved
loop-at-preserved c = none_further c.args.bytes.now c.loop-at.at c.loop-at-test.true c.if-bytes-at-eq10.false c.loop-at.invariant

pub returns-clause-lines : goal.returns-clause-lines
returns-clause-lines c =
    let end : c.loop-at.at ≡ length c.args.bytes.now = omega (arith, c.loop-at-test.false, c.loop-at.auto.at-end) in
    one_line_at c.args.bytes.now c.loop-at.at c.requires end c.loop-at.invariant
