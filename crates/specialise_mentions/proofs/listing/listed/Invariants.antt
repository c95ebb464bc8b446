-- What the nodes so far name.
use Rattle.std.proofs.Common.{◌≡◌, ℕ, map, take}
use Rattle.std.specs.List.{flat_map}
use Rattle.rw_types_solving.specs.Types.{Ty}
use Rattle.rw_scope_nodes.specs.Plain.{plain_nodes}
use Rattle.specialise_mentions.specs.Named.{named_in, seen_mention}
use Rattle.specialise_mentions.proofs.listing.listed.Given as goal

abbrev pub invariant-loop-node : goal.invariant-loop-node
invariant-loop-node l = (t : ℕ → Ty) → map (seen_mention t) l.all.items ≡ flat_map (named_in t) (plain_nodes (take l.node-index l.node-items))
