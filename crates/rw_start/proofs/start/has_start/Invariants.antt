-- The name is among those that are left where it is among all.
use Rattle.std.proofs.Common.{◌≡◌, codes, drop}
use Rattle.rw_scope_rules.specs.Names.{is_among}
use Rattle.rw_start.proofs.start.has_start.Given as goal

abbrev pub invariant-loop-name : goal.invariant-loop-name
invariant-loop-name l = is_among (codes "start") (drop l.name-index l.names) ≡ is_among (codes "start") l.names
