-- One declaration more.
use Rattle.rw_tree.specs.Declarations.{declaration}
use Rattle.rw_types_rules.specs.Schemes.{signatures_in}
use Rattle.rw_types_world.proofs.First.{one_declaration}
use Rattle.rw_types_world.proofs.signed.signatures_of.Goals as goal

pub loop-decl-preserved : goal.loop-decl-preserved
loop-decl-preserved c =
    one_declaration (declaration (λ a. a.span)) signatures_in c.args.decls.now c.add_decl.new.table c.loop-decl.table c.loop-decl.decl-index c.decl-item.result
    c.loop-decl-test.true c.decl-item.is c.in_ok-add_decl.ensures c.loop-decl.invariant
