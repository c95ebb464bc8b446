-- The kinds so far, before those that are left, are all.
use Rattle.std.proofs.Common.{◌≡◌, ◌++◌, drop}
use Rattle.rw_types_numbering.proofs.label.take_arguments.Given as goal

abbrev pub invariant-loop-kind : goal.invariant-loop-kind
invariant-loop-kind l = record {
  kinds : l.kinds ++ drop l.kind-index l.more ≡ l.fn.kinds ++ l.more;
}
