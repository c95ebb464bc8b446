-- All that were passed have a width.
use Rattle.std.proofs.Common.{◌≡◌, drop}
use Rattle.std.specs.List.{list_all}
use Rattle.vh_tree.specs.StaticRules.{is_width}
use Rattle.vh_tree.specs.declared.function.Var.{Var}
use Rattle.vh_tree_static.proofs.fit.vars_fit.Given as goal

abbrev pub invariant-loop-var : goal.invariant-loop-var
invariant-loop-var l =
    let fits = λ (v : Var). is_width v.width in
    list_all fits (drop l.var-index l.vars) ≡ list_all fits l.vars
