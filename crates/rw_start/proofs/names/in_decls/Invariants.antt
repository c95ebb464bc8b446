-- What the loop keeps: the places of the declarations so far stand behind the old ones.
use Rattle.std.proofs.Common.{◌≡◌, ◌++◌, take, map, flat_map}
use Rattle.rw_tree.specs.Views.{itself}
use Rattle.rw_tree.specs.Declarations.{declaration}
use Rattle.rw_scope_rules.specs.Nodes.{declaration_nodes}
use Rattle.rw_start.specs.Positions.{strays}
use Rattle.rw_start.proofs.names.in_decls.Given as goal

abbrev pub invariant-loop-decl : goal.invariant-loop-decl
invariant-loop-decl l = l.places.items ≡ l.fn.places.items ++ strays l.start (flat_map declaration_nodes (map (declaration itself) (take l.decl-index l.decls)))
