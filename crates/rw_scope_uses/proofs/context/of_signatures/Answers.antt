-- The tables say what the monads and the declarations say.
use Rattle.std.proofs.Common.{map, refl}
use Rattle.rw_tree.specs.Declarations.{declaration}
use Rattle.rw_scope_uses.proofs.Contexts.{of_signatures_made}
use Rattle.rw_scope_uses.proofs.context.of_signatures.Goals as goal

pub returns : goal.returns
returns g c see =
    of_signatures_made (map (declaration see) c.args.decls.now) _ c.new-types.result c.add_computations.new.table c.new-monads.result c.new-types.ensures c.new-monads.ensures c.in_ok-add_computations.ensures (c.in_ok-add_data.ensures see)
    c.in_ok-add_monads.ensures refl
