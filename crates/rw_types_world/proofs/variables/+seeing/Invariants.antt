-- What is seen so far, and then the rest, is the whole.
use Rattle.std.proofs.Common.{◌≡◌, drop}
use Rattle.rw_tree.specs.Types.{writtens, type_parts}
use Rattle.rw_scope_rules.specs.Scope.{types_variables}
use Rattle.rw_types_world.specs.Sights.{seen_after}
use Rattle.rw_types_world.proofs.variables.+seeing.Given as goal

abbrev pub invariant-add_all_variables-loop-ty : goal.invariant-add_all_variables-loop-ty
invariant-add_all_variables-loop-ty l = seen_after l.names (types_variables (type_parts (writtens (drop l.ty-index l.types)))) ≡ seen_after l.fn.names (types_variables (type_parts (writtens l.types)))
