-- What was added, before what is to be added, is the whole.
use Rattle.std.proofs.Common.{◌≡◌, ◌++◌, drop, map}
use Rattle.vh_tree.specs.Functions.{variable_of}
use Rattle.vh_tree_plain.proofs.function.add_variables.Given as goal

abbrev pub invariant-loop-var : goal.invariant-loop-var
invariant-loop-var l = l.store.items ++ map variable_of (drop l.var-index l.vars) ≡ l.fn.store.items ++ map variable_of l.vars
