-- What the loop keeps: the rows so far are those of the data types so far.
use Rattle.std.proofs.Common.{◌≡◌, map, take}
use Rattle.rw_scope_kinds.specs.Mentions.{mention_graph, plain_made}
use Rattle.rw_scope_kinds.proofs.mentions.mentions.Given as goal

abbrev pub invariant-loop-one : goal.invariant-loop-one
invariant-loop-one l = l.graph ≡ mention_graph l.table (map plain_made (take l.one-index l.all))
