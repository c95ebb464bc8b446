-- What the loop keeps: the scope after what is left is the whole scope.
use Rattle.std.proofs.Common.{◌≡◌, drop}
use Rattle.rw_tree.specs.Views.{itself}
use Rattle.rw_tree.specs.Patterns.{patterns}
use Rattle.rw_scope_rules.specs.Bindings.{inside_row}
use Rattle.rw_scope_binding.proofs.enter.+entering.Given as goal

abbrev pub invariant-enter_row-loop-pat : goal.invariant-enter_row-loop-pat
invariant-enter_row-loop-pat l = inside_row (patterns itself (drop l.pat-index l.pats)) l.scope ≡ inside_row (patterns itself l.pats) l.fn.scope
