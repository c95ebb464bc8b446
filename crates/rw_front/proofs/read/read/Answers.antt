use Rattle.std.proofs.Common.{rules, arith}
use Rattle.rw_front.proofs.Reading.{read_answers}
use Rattle.rw_front.proofs.read.read.Goals as goal

pub returns : goal.returns
returns c =
    read_answers c.args.bytes.now c.in_ok-tokens.tokens.items c.in_ok-laid.laid.items c.parse.result (search (rules, c.if-bytes-gt-MOST_BYTES.false, arith)) c.in_ok-tokens.ensures.tokens
    (search (rules, c.in_ok-laid.ensures, c.deref.ensures.value)) (search (rules, c.parse.ensures.parses, c.deref-2.ensures.value))
