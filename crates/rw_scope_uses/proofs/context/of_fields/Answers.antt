-- The table says what the declarations say.
use Rattle.std.proofs.Common.{map, refl}
use Rattle.rw_tree.specs.Declarations.{declaration}
use Rattle.rw_scope_uses.proofs.Contexts.{of_fields_made}
use Rattle.rw_scope_uses.proofs.context.of_fields.Goals as goal

pub returns : goal.returns
returns g c see = of_fields_made (map (declaration see) c.args.decls.now) _ c.new-types.result c.new-types.ensures (c.in_ok-add_data.ensures see) c.new.ensures refl
