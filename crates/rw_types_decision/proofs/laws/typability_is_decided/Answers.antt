-- Equations first, sorts after.
use Rattle.rw_types_decision.proofs.Deciding.{default_decided, typable_decided}
use Rattle.rw_types_decision.proofs.laws.typability_is_decided.Goals as goal

pub returns-clause-typable : goal.returns-clause-typable
returns-clause-typable c = typable_decided

pub returns-clause-default : goal.returns-clause-default
returns-clause-default c = default_decided
