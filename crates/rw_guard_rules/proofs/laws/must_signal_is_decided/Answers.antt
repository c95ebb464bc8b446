-- The set of the must-signal functions decides.
use Rattle.rw_guard_rules.proofs.Ranks.{must_signal_decided, guarded_decided}
use Rattle.rw_guard_rules.proofs.laws.must_signal_is_decided.Goals as goal

pub returns-clause-signals : goal.returns-clause-signals
returns-clause-signals c = must_signal_decided

pub returns-clause-guarded : goal.returns-clause-guarded
returns-clause-guarded c = guarded_decided
