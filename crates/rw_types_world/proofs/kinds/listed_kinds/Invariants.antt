-- What is made, before what is left, is the whole.
use Rattle.std.proofs.Common.{◌≡◌, ◌++◌, map, drop}
use Rattle.rw_types_world.specs.Parts.{kind_by}
use Rattle.rw_types_world.proofs.kinds.listed_kinds.Given as goal

abbrev pub invariant-loop-name : goal.invariant-loop-name
invariant-loop-name l = l.kinds ++ map (kind_by l.table) (drop l.name-index l.variables) ≡ map (kind_by l.table) l.variables
