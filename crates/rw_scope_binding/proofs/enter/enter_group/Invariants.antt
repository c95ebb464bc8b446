-- What the loop keeps: the scope after what is left is the whole scope.
use Rattle.std.proofs.Common.{◌≡◌, drop, map}
use Rattle.rw_tree.specs.Views.{itself}
use Rattle.rw_tree.specs.Trees.{binding_parts, local_binding}
use Rattle.rw_scope_rules.specs.Bindings.{inside_group}
use Rattle.rw_scope_binding.proofs.enter.enter_group.Given as goal

abbrev pub invariant-loop-local : goal.invariant-loop-local
invariant-loop-local l =
    inside_group (binding_parts (map (local_binding itself) (drop l.local-index l.locals))) l.scope ≡ inside_group (binding_parts (map (local_binding itself) l.locals)) l.fn.scope
