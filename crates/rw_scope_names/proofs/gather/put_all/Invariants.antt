-- What the loop keeps: what is in the set, and what is still to be put in, is all.
use Rattle.std.proofs.Common.{◌≡◌, drop}
use Rattle.std.specs.Prelude.{◌||◌}
use Rattle.rw_scope_rules.specs.Names.{Bytes, is_among}
use Rattle.rw_scope_names.proofs.gather.put_all.Given as goal

abbrev pub invariant-loop-name : goal.invariant-loop-name
invariant-loop-name l = (x : Bytes) → (is_among x (drop l.name-index l.names) || is_among x l.set) ≡ (is_among x l.names || is_among x l.fn.set)
