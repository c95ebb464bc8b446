-- What is numbered from the scope's size on is bound after the scope.
use Rattle.std.proofs.Common.{◌∙◌}
use Rattle.rw_tree.specs.Views.{itself}
use Rattle.rw_tree.specs.Patterns.{patterns}
use Rattle.rw_scope_binding.specs.Numbered.{known}
use Rattle.rw_scope_binding.proofs.Numbers.{numbered_row-bound}
use Rattle.rw_scope_binding.proofs.pattern.bind_new_row.Goals as goal

pub returns-clause-trees : goal.returns-clause-trees
returns-clause-trees c = c.in_ok-bound.ensures.trees ∙ numbered_row-bound (known c.args.tops.now) c.depth-number.result c.args.scope.now (patterns itself c.args.pats.now) c.depth-number.ensures
