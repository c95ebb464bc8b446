-- What the loop keeps: the first place so far is that of the declarations so far.
use Rattle.std.proofs.Common.{map, flat_map, take}
use Rattle.rw_tree.specs.Views.{itself}
use Rattle.rw_tree.specs.Declarations.{declaration}
use Rattle.rw_cover.specs.Correct.{IsFirst}
use Rattle.rw_cover.specs.Walk.{own_groups}
use Rattle.rw_cover.proofs.program.first_of_own.Given as goal

abbrev pub invariant-loop-decl : goal.invariant-loop-decl
invariant-loop-decl l = IsFirst (flat_map (own_groups l.counts l.known) (map (declaration itself) (take l.decl-index l.decls))) l.first
