-- The greater of one and the bits of a tag tells as many apart, and is at most 32.
use Rattle.std.proofs.Common.{◌≤◌, ◌^◌, arith}
use Rattle.std.proofs.Math.Nat.{pow-le-pow_right}
use Rattle.register_machine.proofs.codes.code_width.Goals as goal

pub returns-clause-enough : goal.returns-clause-enough
returns-clause-enough c =
    let grows : 2 ^ c.tag_bits.result ≤ 2 ^ c.max.result = pow-le-pow_right (omega arith) (omega arith) in omega (arith, c.tag_bits.ensures.enough)

pub returns-clause-narrow : goal.returns-clause-narrow
returns-clause-narrow c = let few : c.tag_bits.result ≤ 32 = c.tag_bits.ensures.least 32 (omega arith) in omega arith
