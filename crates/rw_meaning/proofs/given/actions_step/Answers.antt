-- Steps of actions.
use Rattle.rw_meaning.proofs.Acting.{acts, traces, acts_by, traces_by}
use Rattle.rw_meaning.proofs.given.actions_step.Goals as goal

pub returns-clause-acts : goal.returns-clause-acts
returns-clause-acts c = acts

pub returns-clause-traces : goal.returns-clause-traces
returns-clause-traces c = traces

pub returns-clause-acts_by : goal.returns-clause-acts_by
returns-clause-acts_by c = acts_by

pub returns-clause-traces_by : goal.returns-clause-traces_by
returns-clause-traces_by c = traces_by
