-- The table says what its entries say.
use Rattle.std.proofs.Common.{◌∙◌, ap}
use Rattle.rw_scope_rules.specs.Names.{first_named}
use Rattle.rw_scope_binding.proofs.Entries.{found}
use Rattle.rw_scope_binding.proofs.table.Table.find.Goals as goal

pub returns : goal.returns
returns g c = c.copied.ensures ∙ c.get.ensures.value ∙ found c.self.inside.index c.args.name.now c.self.inside.index.entries ∙ ap (first_named c.args.name.now) c.self.view_is
