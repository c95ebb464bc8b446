use Rattle.std.proofs.Common.{◌≡◌, ◌++◌, drop}
use Rattle.rw_parser_items.specs.Named.{with_points}
use Rattle.rw_parser_items.proofs.module.behind_points.Given as goal

-- what was made so far, before what the other names give, is what all give
abbrev pub invariant-loop-name : goal.invariant-loop-name
invariant-loop-name l = l.bytes.items ++ with_points (drop l.name-index l.others) ≡ l.first ++ with_points l.others
