-- Nothing comes before the first pattern of a row and after the last.
use Rattle.std.proofs.Common.{refl}
use Rattle.rw_tree.specs.Views.{itself}
use Rattle.rw_tree.specs.Patterns.{patterns}
use Rattle.rw_scope_rules.specs.Bindings.{row_variables}
use Rattle.rw_scope_names.proofs.Behind.{at_last}
use Rattle.rw_scope_names.proofs.variables.see_one_row.Goals as goal

pub returns : goal.returns
returns c =
    at_last c.see_row.result c.new-seen.result c.see_row.new.seen c.args.places.now.items c.see_row.new.places.items _ (row_variables (patterns itself c.args.pats.now))
    c.new-seen.ensures refl c.see_row.ensures.row
