-- Those so far may be state monads.
use Rattle.std.proofs.Common.{◌≡◌, ℕ, ◌<◌, true}
use Rattle.rw_types_solving.specs.Types.{meaning}
use Rattle.rw_types_solving.specs.Conditions.{is_state_monad, any, listed}
use Rattle.rw_types_rules.specs.Typings.{is_state_kind}
use Rattle.rw_types.specs.Inside.{kind_at}
use Rattle.rw_types.proofs.carried.all_state_monads.Given as goal

abbrev pub invariant-loop-i : goal.invariant-loop-i
invariant-loop-i l = (x : ℕ) → x < l.i → is_state_kind (kind_at l.slots x) ≡ true → is_state_monad any (listed l.states) (meaning l.types x) ≡ true
