-- What was added, before what is to be added, is the whole.
use Rattle.std.proofs.Common.{◌≡◌, ◌++◌, drop}
use Rattle.vh_tree.specs.StaticRules.{parameter_vars}
use Rattle.vh_tree_static.proofs.fit.add_params.Given as goal

abbrev pub invariant-loop-param : goal.invariant-loop-param
invariant-loop-param l = l.all.items ++ parameter_vars (drop l.param-index l.params) l.rest ≡ l.fn.all.items ++ parameter_vars l.params l.vars
