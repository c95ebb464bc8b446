-- The entries with one more say what the table said, and what is new.
use Rattle.std.proofs.Common.{ℕ, ◌∙◌, ap, Vec, Global}
use Rattle.rw_base_tables.specs.Tables.{Bytes, known_in, put}
use Rattle.rw_base_tables.proofs.Entries.{seen, inserted}
use Rattle.rw_base_tables.proofs.table.Table.put.Goals as goal

pub returns : goal.returns
returns g c = λ x.
    let index = c.self.inside.index in
    ap (λ es. known_in (seen {K = Vec ℕ Global} (λ k. k.items) es) x) c.in_ok-insert.ensures.entries
    ∙ inserted {K = Vec ℕ Global} (λ k. k.items) c.in_ok-from_slice.field-0 c.args.value index.entries x
    ∙ ap (λ (n : Bytes). put n c.args.value (known_in (seen {K = Vec ℕ Global} (λ k. k.items) index.entries)) x) c.in_ok-from_slice.ensures.items
    ∙ ap (λ t. put c.args.name.now c.args.value (known_in t) x) c.self.view_is
