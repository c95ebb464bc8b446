-- What the loop keeps: the nodes that were found are those of the declarations so far.
use Rattle.std.proofs.Common.{◌≡◌, take, map, flat_map}
use Rattle.rw_tree.specs.Views.{itself}
use Rattle.rw_tree.specs.Declarations.{declaration}
use Rattle.rw_scope_rules.specs.Nodes.{declaration_nodes}
use Rattle.rw_scope_nodes.specs.Plain.{plain_nodes}
use Rattle.rw_scope_nodes.proofs.walk.nodes.Given as goal

abbrev pub invariant-loop-decl : goal.invariant-loop-decl
invariant-loop-decl g l = plain_nodes l.found.items ≡ flat_map declaration_nodes (map (declaration itself) (take l.decl-index l.decl-items))
