-- What the loop keeps: the answer for the types that are left is that for all.
use Rattle.std.proofs.Common.{◌≡◌, drop}
use Rattle.rw_tree.specs.Types.{writtens, type_parts}
use Rattle.rw_scope_rules.specs.Scope.{types_variables}
use Rattle.rw_scope_rules.specs.Kinds.{has_none}
use Rattle.rw_scope_kinds.proofs.variables.+variables.Given as goal

abbrev pub invariant-any_has-loop-ty : goal.invariant-any_has-loop-ty
invariant-any_has-loop-ty l = has_none (types_variables (type_parts (writtens (drop l.ty-index l.types)))) ≡ has_none (types_variables (type_parts (writtens l.types)))
