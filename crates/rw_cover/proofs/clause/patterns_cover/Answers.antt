-- The one row decides.
use Rattle.std.proofs.Common.{subst}
use Rattle.rw_scope_rules.specs.declared.binding.Bound.{Bound}
use Rattle.rw_tree.specs.Views.{itself}
use Rattle.rw_tree.specs.Patterns.{patterns}
use Rattle.rw_cover_matrix.specs.Coverage.{Decides}
use Rattle.rw_cover.specs.Rows.{matrix_row}
use Rattle.rw_cover.proofs.RowForms.{one_row, if_ok_weaker}
use Rattle.rw_cover.proofs.clause.patterns_cover.Goals as goal

pub returns : goal.returns
returns c =
    if_ok_weaker c.covers.result
    (λ answer d. subst (Decides answer)
    (one_row c.push.new.self c.new-rows.result c.in_ok-matrix_row.field-0 (matrix_row c.args.counts.now (patterns {A = Bound} {X = Bound} itself c.args.patterns.now))
    c.in_ok-push.ensures.ok c.new-rows.ensures c.in_ok-matrix_row.ensures)
    d)
    c.covers.ensures
