use Rattle.std.proofs.Common.{◌+◌, ◌*◌, drop, sym, ap, ◌∙◌}
use Rattle.vh_tree_reading.specs.Scan.{read_on}
use Rattle.vhdl_read.proofs.Scanning.{too_large, next_digit}
use Rattle.vhdl_read.proofs.word.number_value.Goals as goal

pub returns-then-next-gt2147483647 : goal.returns-then-next-gt2147483647
returns-then-next-gt2147483647 c =
    let behind = drop (c.loop-b.b-index + 1) c.args.digits.now in
    sym (too_large (10 * c.loop-b.value + c.saturating_sub.result) behind c.args.digits.now c.if-next-gt2147483647.true
    (ap (λ d. read_on (10 * c.loop-b.value + d) behind) c.saturating_sub.ensures ∙ next_digit c.loop-b.value c.loop-b.b-index c.args.digits.now c.loop-b-test.true ∙ c.loop-b.invariant.0))
