-- What the entries say of a name, before and after.
use Rattle.std.proofs.Common.{◌∙◌, ap, Some, if◌then◌else◌}
use Rattle.rw_scope_rules.specs.Names.{same_name, first_named}
use Rattle.rw_scope_uses.proofs.Tables.{updated}
use Rattle.rw_scope_uses.proofs.table.Table.put.Goals as goal

pub returns : goal.returns
returns g c = λ x.
    updated c.self.inside.index c.insert.new.self c.args.name c.args.value c.in_ok-insert.ensures.updates.0 x
    ∙ ap (λ es. if same_name x c.args.name then Some c.args.value else first_named x es) c.self.view_is
