-- What is appended so far, and what is to come, is the whole.
use Rattle.std.proofs.Common.{◌≡◌, ◌++◌, map, drop}
use Rattle.vh_tree.specs.declared.token.Mark.TheVariants as m
use Rattle.vh_tree.specs.Canonical.{joined, spelled, var_tokens}
use Rattle.vhdl_print.proofs.function.push_vars.Given as goal

abbrev pub invariant-loop-var : goal.invariant-loop-var
invariant-loop-var l =
    l.text.items ++ spelled (joined (map (var_tokens m.Variable) (drop l.var-index l.vars))) ≡ l.fn.text.items ++ spelled (joined (map (var_tokens m.Variable) l.vars))
