-- What the loop keeps: all names so far are known.
use Rattle.std.proofs.Common.{◌≡◌, true, take}
use Rattle.rw_scope_rules.specs.Scope.{are_among}
use Rattle.rw_scope_names.proofs.names.Names.have.Given as goal

abbrev pub invariant-loop-name : goal.invariant-loop-name
invariant-loop-name l = are_among (take l.name-index l.names) l.self ≡ true
