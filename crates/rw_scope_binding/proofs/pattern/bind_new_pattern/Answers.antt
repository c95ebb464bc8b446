-- What is numbered from the scope's size on is bound after the scope.
use Rattle.std.proofs.Common.{◌∙◌}
use Rattle.rw_tree.specs.Views.{itself}
use Rattle.rw_tree.specs.Patterns.{pattern}
use Rattle.rw_scope_binding.specs.Numbered.{known}
use Rattle.rw_scope_binding.proofs.Numbers.{numbered_pattern-bound}
use Rattle.rw_scope_binding.proofs.pattern.bind_new_pattern.Goals as goal

pub returns-clause-tree : goal.returns-clause-tree
returns-clause-tree c = c.in_ok-bound.ensures.tree ∙ numbered_pattern-bound (known c.args.tops.now) c.depth-number.result c.args.scope.now (pattern itself c.args.pat.now) c.depth-number.ensures
