-- The table says what its entries say.
use Rattle.std.proofs.Common.{ℕ, ◌∙◌, ap, is_some, Vec, Global}
use Rattle.rw_parser_chains.specs.Fixities.{known_in}
use Rattle.rw_parser_chains.proofs.Entries.{found}
use Rattle.rw_parser_chains.proofs.fixities.Fixities.has.Goals as goal

pub returns : goal.returns
returns c =
    let table = c.self.inside.table in
    c.contains_key.ensures ∙ ap is_some (found {K = Vec ℕ Global} (λ k. k.items) table c.args.name.now table.entries ∙ ap (λ t. known_in t c.args.name.now) c.self.view_is)
