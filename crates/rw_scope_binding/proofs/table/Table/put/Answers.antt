-- What the entries say of a name, before and after.
use Rattle.std.proofs.Common.{◌∙◌, sym, ap, Some, if◌then◌else◌}
use Rattle.rw_scope_rules.specs.Names.{same_name, first_named}
use Rattle.rw_scope_binding.proofs.Entries.{found, updated, on_err}
use Rattle.rw_scope_binding.proofs.table.Table.put.Goals as goal

pub returns-clause-told : goal.returns-clause-told
returns-clause-told g c = λ x.
    updated c.self.inside.index c.insert.new.self c.args.name c.args.value c.in_ok-insert.ensures.updates.0 x
    ∙ ap (λ es. if same_name x c.args.name then Some c.args.value else first_named x es) c.self.view_is

pub returns-in_err-insert-clause-absent : goal.returns-in_err-insert-clause-absent
returns-in_err-insert-clause-absent g c =
    on_err c.from_residual.result _ (sym (found c.self.inside.index c.args.name c.self.inside.index.entries ∙ ap (first_named c.args.name) c.self.view_is) ∙ c.in_err-insert.ensures.absent)
