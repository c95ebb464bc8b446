-- What is left begins with copies exactly where all does.
use Rattle.std.proofs.Common.{◌≡◌, drop}
use Rattle.vh_tree.specs.StaticRules.{begins_with_copies}
use Rattle.vh_tree_static.proofs.names.begins_with_copies.Given as goal

abbrev pub invariant-loop-param : goal.invariant-loop-param
invariant-loop-param l = begins_with_copies (drop l.param-index l.params) l.vars l.body ≡ begins_with_copies l.params l.initial.vars l.initial.body
