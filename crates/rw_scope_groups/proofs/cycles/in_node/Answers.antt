-- The bindings of a group.
use Rattle.std.proofs.Common.{◌∙◌, ◌++◌, sym, ap, map}
use Rattle.rw_tree.specs.Views.{itself}
use Rattle.rw_tree.specs.Trees.{local_binding}
use Rattle.rw_scope_rules.specs.Groups.{binding_place, cyclic_in_node, never_placed}
use Rattle.rw_scope_nodes.specs.Plain.{plain_node}
use Rattle.rw_scope_groups.proofs.Basics.{after_ok}
use Rattle.rw_scope_groups.proofs.PatternNumbers.{bindings_listed}
use Rattle.rw_scope_groups.proofs.cycles.in_node.Goals as goal

pub returns-in-Group : goal.returns-in-Group
returns-in-Group c =
    after_ok c.in_group.result
    (λ h. h ∙ ap (λ ps. c.args.places.now.items ++ ps)
    (ap (λ bs. map binding_place (never_placed bs)) (sym (bindings_listed (map (local_binding itself) c.in-Group.bindings.now))) ∙ ap (λ n. cyclic_in_node (plain_node n)) (sym c.in-Group.is)))
    c.in_group.ensures
