-- What the table comes to is a most general solution.
use Rattle.std.proofs.Common.{◌∙◌, ap, length}
use Rattle.std.proofs.lemmas.Result.{err_from_is_err_and}
use Rattle.rw_types_solving.proofs.MostGeneral.{at_table, made_solves, made_general, made_within, made_sorted, none_at_table}
use Rattle.rw_types_solving.proofs.table.Table.most_general.Goals as goal

pub returns-clause-solves : goal.returns-clause-solves
returns-clause-solves c = made_solves _ _ c.requires (c.in_ok-types.ensures.as_many ∙ ap length (c.as_slice.ensures ∙ c.self.view_is)) (at_table _ _ _ (c.as_slice.ensures ∙ c.self.view_is) c.in_ok-types.ensures.made)

pub returns-clause-general : goal.returns-clause-general
returns-clause-general c = made_general _ _ c.requires (c.in_ok-types.ensures.as_many ∙ ap length (c.as_slice.ensures ∙ c.self.view_is)) (at_table _ _ _ (c.as_slice.ensures ∙ c.self.view_is) c.in_ok-types.ensures.made)

pub returns-clause-within : goal.returns-clause-within
returns-clause-within c = made_within _ _ c.requires (c.in_ok-types.ensures.as_many ∙ ap length (c.as_slice.ensures ∙ c.self.view_is)) (at_table _ _ _ (c.as_slice.ensures ∙ c.self.view_is) c.in_ok-types.ensures.made)

pub returns-clause-sorted : goal.returns-clause-sorted
returns-clause-sorted c = made_sorted _ _ c.requires (c.in_ok-types.ensures.as_many ∙ ap length (c.as_slice.ensures ∙ c.self.view_is)) (at_table _ _ _ (c.as_slice.ensures ∙ c.self.view_is) c.in_ok-types.ensures.made)

pub returns-in_err-types-clause-refused : goal.returns-in_err-types-clause-refused
returns-in_err-types-clause-refused c = λ e.
    let p = err_from_is_err_and c.from_residual.result c.from_residual.ensures.1 in
    none_at_table _ _ c.requires (c.as_slice.ensures ∙ c.self.view_is) (c.in_err-types.ensures.refused (cc))
