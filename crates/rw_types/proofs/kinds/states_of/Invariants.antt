-- What is made, before what is left, is the whole.
use Rattle.std.proofs.Common.{◌≡◌, ◌++◌, drop, map}
use Rattle.rw_types_rules.specs.Typings.{is_state_kind}
use Rattle.rw_types.proofs.kinds.states_of.Given as goal

abbrev pub invariant-loop-kind : goal.invariant-loop-kind
invariant-loop-kind l = l.all ++ map is_state_kind (drop l.kind-index l.kinds) ≡ map is_state_kind l.kinds
