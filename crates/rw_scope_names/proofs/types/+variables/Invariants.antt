-- What the loop keeps: the types so far have known names.
use Rattle.std.proofs.Common.{◌≡◌, true, take, flat_map}
use Rattle.rw_tree.specs.Types.{writtens}
use Rattle.rw_scope_rules.specs.Scope.{are_among, type_variables}
use Rattle.rw_scope_names.proofs.types.+variables.Given as goal

abbrev pub invariant-all_variables_are-loop-written : goal.invariant-all_variables_are-loop-written
invariant-all_variables_are-loop-written l = are_among (flat_map type_variables (writtens (take l.written-index l.types))) l.known ≡ true
