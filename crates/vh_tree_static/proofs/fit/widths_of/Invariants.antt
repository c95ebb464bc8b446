-- What was added, before what is to be added, is the whole.
use Rattle.std.proofs.Common.{◌≡◌, ◌++◌, drop, map}
use Rattle.vh_tree.specs.declared.function.Var.{Var}
use Rattle.vh_tree_static.proofs.fit.widths_of.Given as goal

abbrev pub invariant-loop-var : goal.invariant-loop-var
invariant-loop-var l = l.widths ++ map (λ (v : Var). v.width) (drop l.var-index l.vars) ≡ map (λ (v : Var). v.width) l.vars
