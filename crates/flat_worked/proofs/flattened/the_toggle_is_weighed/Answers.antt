-- By computing.
use Rattle.flat_worked.proofs.Weighing.{must_signal, weighed}
use Rattle.flat_worked.proofs.flattened.the_toggle_is_weighed.Goals as goal

pub returns-clause-signalling : goal.returns-clause-signalling
returns-clause-signalling c = must_signal

pub returns-clause-weighed : goal.returns-clause-weighed
returns-clause-weighed c = weighed
