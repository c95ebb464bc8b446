-- The table says which bindings bind a number.
use Rattle.std.proofs.Common.{◌∙◌, map}
use Rattle.rw_tree.specs.Views.{itself}
use Rattle.rw_tree.specs.Trees.{local_binding}
use Rattle.rw_scope_groups.specs.Rows.{found_in}
use Rattle.rw_scope_groups.proofs.Basics.{on_ok}
use Rattle.rw_scope_groups.proofs.Placing.{waiting_is}
use Rattle.rw_scope_groups.proofs.graph.waiting.Goals as goal

pub returns : goal.returns
returns c = on_ok c.rows.result (λ graph h. h ∙ waiting_is (found_in c.in_ok-table.table) (map (local_binding itself) c.args.bindings.now) c.in_ok-table.ensures) c.rows.ensures
