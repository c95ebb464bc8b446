-- The declarations that are left have the same place of `start` as all.
use Rattle.std.proofs.Common.{◌≡◌, map, drop}
use Rattle.rw_tree.specs.Declarations.{declaration}
use Rattle.rw_front.specs.Verdict.{place_of_start}
use Rattle.rw_front.proofs.report.place_of_start.Given as goal

abbrev pub invariant-loop-decl : goal.invariant-loop-decl
invariant-loop-decl l = place_of_start (map (declaration (λ span. span)) (drop l.decl-index l.decls)) ≡ place_of_start (map (declaration (λ span. span)) l.decls)
