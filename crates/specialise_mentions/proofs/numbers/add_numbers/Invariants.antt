-- The numbers of the nodes so far.
use Rattle.std.proofs.Common.{◌≡◌, ◌++◌, take}
use Rattle.std.specs.List.{flat_map}
use Rattle.rw_scope_nodes.specs.Plain.{plain_nodes}
use Rattle.specialise_mentions.specs.Typed.{numbers_at}
use Rattle.specialise_mentions.proofs.numbers.add_numbers.Given as goal

abbrev pub invariant-loop-node : goal.invariant-loop-node
invariant-loop-node l = l.all.items ≡ l.fn.all.items ++ flat_map numbers_at (plain_nodes (take l.node-index l.node-items))
