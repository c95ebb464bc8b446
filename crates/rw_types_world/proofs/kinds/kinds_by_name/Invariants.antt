-- The uses from the last one on.
use Rattle.std.proofs.Common.{◌≡◌, ◌-◌, length, drop}
use Rattle.rw_scope_rules.specs.Names.{Bytes}
use Rattle.rw_types_rules.specs.Written.{kind_in}
use Rattle.rw_scope_uses.specs.Spine.{plain_uses}
use Rattle.rw_types_world.specs.Parts.{kind_by}
use Rattle.rw_types_world.proofs.kinds.kinds_by_name.Given as goal

abbrev pub invariant-loop-done : goal.invariant-loop-done
invariant-loop-done l = (x : Bytes) → kind_by l.table x ≡ kind_in (plain_uses (drop (length l.uses - l.done) l.uses)) x
