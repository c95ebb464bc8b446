-- The table says what its entries say.
use Rattle.std.proofs.Common.{ℕ, ◌∙◌, ap, Vec, Global}
use Rattle.rw_base_tables.specs.Tables.{known_in}
use Rattle.rw_base_tables.proofs.Entries.{found}
use Rattle.rw_base_tables.proofs.table.Table.get.Goals as goal

pub returns : goal.returns
returns g c =
    let index = c.self.inside.index in
    c.get.ensures.value ∙ found {K = Vec ℕ Global} (λ k. k.items) index c.args.name.now index.entries
    ∙ ap (λ t. known_in t c.args.name.now) c.self.view_is
