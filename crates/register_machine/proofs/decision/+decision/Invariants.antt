-- Each step has one bit less.
use Rattle.register_machine.proofs.decision.+decision.Given as goal

abbrev pub decreases-decision : goal.decreases-decision
decreases-decision g l = l.left
