-- The group is found, and what it binds is left.
use Rattle.std.proofs.Common.{◌∷◌, refl, map, flat_map}
use Rattle.rw_tree.specs.Views.{itself}
use Rattle.rw_tree.specs.Trees.{binding_parts, local_binding}
use Rattle.rw_scope_rules.specs.Nodes.{group_node, binding_nodes}
use Rattle.rw_scope_nodes.proofs.Steps.{left_more, found_one}
use Rattle.rw_scope_nodes.proofs.step.find_group.Goals as goal

pub returns-clause-nodes : goal.returns-clause-nodes
returns-clause-nodes g c =
    let inner = flat_map binding_nodes (map (local_binding itself) c.args.group.now) in
    found_one c.args.found.now.items c.push.new.self.items _ (group_node (binding_parts (map (local_binding itself) c.args.group.now)) ∷ inner) inner _ _ c.in_ok-push.ensures.items refl (left_more _ _ _ c.in_ok-push-2.ensures.items)
