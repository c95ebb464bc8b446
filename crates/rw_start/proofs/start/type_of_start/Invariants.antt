-- The declarations that are left give `start` the same type as all.
use Rattle.std.proofs.Common.{◌≡◌, map, drop}
use Rattle.rw_tree.specs.Views.{itself}
use Rattle.rw_tree.specs.Declarations.{declaration}
use Rattle.rw_start.specs.Start.{type_of_start}
use Rattle.rw_start.proofs.start.type_of_start.Given as goal

abbrev pub invariant-loop-decl : goal.invariant-loop-decl
invariant-loop-decl l = type_of_start (map (declaration itself) (drop l.decl-index l.decls)) ≡ type_of_start (map (declaration itself) l.decls)
