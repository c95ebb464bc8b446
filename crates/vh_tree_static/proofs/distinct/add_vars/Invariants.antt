-- What was added, before what is to be added, is the whole.
use Rattle.std.proofs.Common.{◌≡◌, ◌++◌, drop}
use Rattle.vh_tree.specs.StaticRules.{names_of}
use Rattle.vh_tree_static.proofs.distinct.add_vars.Given as goal

abbrev pub invariant-loop-var : goal.invariant-loop-var
invariant-loop-var l = l.names.items ++ names_of (drop l.var-index l.vars) ≡ l.fn.names.items ++ names_of l.vars
