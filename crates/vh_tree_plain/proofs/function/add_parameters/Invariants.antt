-- What was added, before what is to be added, is the whole.
use Rattle.std.proofs.Common.{◌≡◌, ◌++◌, drop}
use Rattle.vh_tree.specs.Functions.{parameters_of}
use Rattle.vh_tree_plain.proofs.function.add_parameters.Given as goal

abbrev pub invariant-loop-param : goal.invariant-loop-param
invariant-loop-param l = l.store.items ++ parameters_of (drop l.param-index l.params) l.rest ≡ l.fn.store.items ++ parameters_of l.params l.args
