-- One declaration more.
use Rattle.rw_tree.specs.Views.{itself}
use Rattle.rw_tree.specs.Declarations.{declaration}
use Rattle.rw_cover.specs.Walk.{own_groups}
use Rattle.rw_cover.proofs.Groups.{next_first}
use Rattle.rw_cover.proofs.program.first_of_own.Goals as goal

pub loop-decl-preserved : goal.loop-decl-preserved
loop-decl-preserved c =
    next_first (own_groups c.args.counts.now c.args.known.now) (declaration itself) c.args.decls.now c.loop-decl.decl-index c.decl-item.result
    c.loop-decl.first c.in_ok-own_place.field-0 c.sooner-first.result c.loop-decl-test.true c.decl-item.is c.loop-decl.invariant c.in_ok-own_place.ensures c.sooner-first.ensures
