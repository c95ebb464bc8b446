-- What the loop keeps: the fields so far have known names.
use Rattle.std.proofs.Common.{◌≡◌, true, take, map, flat_map}
use Rattle.rw_tree.specs.Declarations.{plain_constructor}
use Rattle.rw_scope_rules.specs.Scope.{are_among, fields_of, type_variables}
use Rattle.rw_scope_names.proofs.types.field_variables_are.Given as goal

abbrev pub invariant-loop-constructor : goal.invariant-loop-constructor
invariant-loop-constructor l = are_among (flat_map type_variables (fields_of (map plain_constructor (take l.constructor-index l.constructors)))) l.known ≡ true
