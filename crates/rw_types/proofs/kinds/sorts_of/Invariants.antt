-- What is made, before what is left, is the whole.
use Rattle.std.proofs.Common.{◌≡◌, ◌++◌, drop, map}
use Rattle.rw_types_rules.specs.Typings.{kind_sort}
use Rattle.rw_types.proofs.kinds.sorts_of.Given as goal

abbrev pub invariant-loop-kind : goal.invariant-loop-kind
invariant-loop-kind l = l.all ++ map kind_sort (drop l.kind-index l.kinds) ≡ map kind_sort l.kinds
