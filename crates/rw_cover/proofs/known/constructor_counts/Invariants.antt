-- What the loop over declarations keeps.
use Rattle.std.proofs.Common.{◌≡◌, map, take}
use Rattle.rw_tree.specs.Views.{itself}
use Rattle.rw_tree.specs.Declarations.{declaration}
use Rattle.rw_cover.specs.Rows.{counts_of}
use Rattle.rw_cover.proofs.known.constructor_counts.Given as goal

-- the numbers so far are those of the declarations so far
abbrev pub invariant-loop-decl : goal.invariant-loop-decl
invariant-loop-decl l = l.counts.items ≡ counts_of (map (declaration itself) (take l.decl-index l.decls))
