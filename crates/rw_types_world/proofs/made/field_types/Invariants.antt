-- What is made, before what is left, is the whole.
use Rattle.std.proofs.Common.{◌≡◌, ◌++◌, map, drop}
use Rattle.rw_types_solving.specs.Types.{plains}
use Rattle.rw_tree.specs.Types.{writtens}
use Rattle.rw_types_rules.specs.Written.{type_of}
use Rattle.rw_types_equations.specs.Seen.{seen_types}
use Rattle.rw_types_world.proofs.made.field_types.Given as goal

abbrev pub invariant-loop-field : goal.invariant-loop-field
invariant-loop-field l = plains l.all ++ map (type_of (seen_types l.types) l.params) (writtens (drop l.field-index l.fields)) ≡ map (type_of (seen_types l.types) l.params) (writtens l.fields)
