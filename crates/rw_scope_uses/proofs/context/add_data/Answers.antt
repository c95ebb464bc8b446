-- One declaration more, and at last all.
use Rattle.std.proofs.Common.{arith}
use Rattle.rw_tree.specs.Declarations.{declaration}
use Rattle.rw_scope_rules.specs.Kinds.{data_kinds}
use Rattle.rw_scope_uses.proofs.Tables.{one_declaration, all_declarations}
use Rattle.rw_scope_uses.proofs.context.add_data.Goals as goal

pub loop-decl-preserved : goal.loop-decl-preserved
loop-decl-preserved g c see =
    one_declaration (declaration see) data_kinds c.args.decls.now c.loop-decl.decl-index c.decl-item.result c.args.types.now c.loop-decl.types c.add_decl.new.types
    (omega arith) c.decl-item.is (c.in_ok-add_decl.ensures see) (c.loop-decl.invariant see)

pub returns : goal.returns
returns g c see = all_declarations (declaration see) data_kinds c.args.decls.now c.loop-decl.decl-index c.args.types.now c.loop-decl.types (omega arith) (c.loop-decl.invariant see)
