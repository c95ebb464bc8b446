-- What is appended so far, and what is to come, is the whole.
use Rattle.std.proofs.Common.{◌≡◌, ◌++◌, map, drop}
use Rattle.vh_tree.specs.declared.token.Mark.TheVariants as m
use Rattle.vh_tree.specs.Canonical.{each_after, param_tokens, separated, spelled}
use Rattle.vhdl_print.proofs.function.push_param_list.Given as goal

abbrev pub invariant-loop-param : goal.invariant-loop-param
invariant-loop-param l =
    l.text.items ++ spelled (each_after m.Semicolon (map param_tokens (drop l.param-index l.others))) ≡ l.fn.text.items ++ spelled (separated m.Semicolon (map param_tokens l.params))
