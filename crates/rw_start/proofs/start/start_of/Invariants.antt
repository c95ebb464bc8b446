-- The declarations that are left declare the same `start` as all.
use Rattle.std.proofs.Common.{◌≡◌, map, drop}
use Rattle.rw_tree.specs.Views.{itself}
use Rattle.rw_tree.specs.Declarations.{declaration}
use Rattle.rw_start.specs.Start.{start_from}
use Rattle.rw_start.proofs.start.start_of.Given as goal

abbrev pub invariant-loop-at : goal.invariant-loop-at
invariant-loop-at l = start_from l.at (map (declaration itself) (drop l.at l.decls)) ≡ start_from 0 (map (declaration itself) l.decls)
