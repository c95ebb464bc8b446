-- The logarithm of one less gives the least width.
use Rattle.std.proofs.Common.{◌+◌, ◌<◌, ◌≤◌, ◌^◌, arith, sym}
use Rattle.bit_layout.proofs.Tags.{tag_width-is, power_least, power_more}
use Rattle.bit_layout.proofs.widths.tag_bits.Goals as goal

pub returns-then-n-eq1-clause-value : goal.returns-then-n-eq1-clause-value
returns-then-n-eq1-clause-value c = sym (tag_width-is c.args.n 0 (omega arith) (λ s h. omega arith))

pub returns-else-n-eq1-clause-value : goal.returns-else-n-eq1-clause-value
returns-else-n-eq1-clause-value c =
    let enough : c.args.n ≤ 2 ^ (c.ilog2.result + 1) = let e = power_more c.ilog2.result in omega arith in
    let below : 2 ^ c.ilog2.result < c.args.n = omega arith in
    sym (tag_width-is c.args.n (c.ilog2.result + 1) enough (power_least c.args.n c.ilog2.result below))

pub returns-else-n-eq1-clause-least : goal.returns-else-n-eq1-clause-least
returns-else-n-eq1-clause-least c =
    let below : 2 ^ c.ilog2.result < c.args.n = omega arith in power_least c.args.n c.ilog2.result below
