-- What the loop keeps: the declarations that are left are judged behind what was seen.
use Rattle.std.proofs.Common.{◌≡◌, ◌++◌, drop, map, flat_map}
use Rattle.rw_tree.specs.Views.{itself}
use Rattle.rw_tree.specs.Declarations.{declaration}
use Rattle.rw_scope_rules.specs.Names.{repeated}
use Rattle.rw_scope_rules.specs.Scope.{types_at}
use Rattle.rw_scope_names.proofs.top.see_types.Given as goal

abbrev pub invariant-loop-decl : goal.invariant-loop-decl
invariant-loop-decl l =
    l.places.items ++ repeated l.seen (flat_map types_at (map (declaration itself) (drop l.decl-index l.decls)))
    ≡ l.fn.places.items ++ repeated l.fn.seen (flat_map types_at (map (declaration itself) l.decls))
