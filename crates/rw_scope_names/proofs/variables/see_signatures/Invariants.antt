-- What the loop keeps: the signatures that are left are judged behind what was seen.
use Rattle.std.proofs.Common.{◌≡◌, ◌++◌, [], drop, map}
use Rattle.rw_tree.specs.Views.{itself}
use Rattle.rw_tree.specs.Trees.{binding_parts, local_binding}
use Rattle.rw_scope_rules.specs.Names.{repeated}
use Rattle.rw_scope_rules.specs.Scope.{group_signatures}
use Rattle.rw_scope_names.proofs.variables.see_signatures.Given as goal

abbrev pub invariant-loop-local : goal.invariant-loop-local
invariant-loop-local l =
    l.places.items ++ repeated l.seen (group_signatures (binding_parts (map (local_binding itself) (drop l.local-index l.locals))))
    ≡ l.fn.places.items ++ repeated [] (group_signatures (binding_parts (map (local_binding itself) l.locals)))
