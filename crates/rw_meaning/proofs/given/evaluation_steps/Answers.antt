-- Steps of evaluation.
use Rattle.rw_meaning.proofs.Applying.{gives_step, step_gives, gives_once, gives_within}
use Rattle.rw_meaning.proofs.given.evaluation_steps.Goals as goal

pub returns-clause-gives : goal.returns-clause-gives
returns-clause-gives c = gives_step

pub returns-clause-steps : goal.returns-clause-steps
returns-clause-steps c = step_gives

pub returns-clause-once : goal.returns-clause-once
returns-clause-once c = gives_once

pub returns-clause-within : goal.returns-clause-within
returns-clause-within c = gives_within
