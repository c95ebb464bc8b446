-- Results last under greater budgets.
use Rattle.rw_meaning.proofs.Lasting.{result_lasts, act_lasts, trace_lasts}
use Rattle.rw_meaning.proofs.laws.results_last.Goals as goal

pub returns-clause-evaluation : goal.returns-clause-evaluation
returns-clause-evaluation c = result_lasts

pub returns-clause-action : goal.returns-clause-action
returns-clause-action c = act_lasts

pub returns-clause-trace : goal.returns-clause-trace
returns-clause-trace c = trace_lasts
