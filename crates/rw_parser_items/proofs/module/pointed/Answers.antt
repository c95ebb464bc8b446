use Rattle.std.proofs.Common.{arith}
use Rattle.rw_parser_items.proofs.Turns.{pointed_whole}
use Rattle.rw_parser_items.proofs.module.pointed.Goals as goal

pub returns-in-len1-up : goal.returns-in-len1-up
returns-in-len1-up c =
    let l = c.in-len1-up.len_at_least in
    pointed_whole c.behind_points.result c.args.parts.now c.other_names.result.now c.first-item.result (omega arith) c.first-item.is c.other_names.ensures c.behind_points.ensures
