use Rattle.vh_tree_static.proofs.Exact.{kept_answer, broken_answer}
use Rattle.vh_tree_static.proofs.check_static.Goals as goal

pub returns-clause-kept : goal.returns-clause-kept
returns-clause-kept c = kept_answer c.args.design.now c.judged.result c.judged.ensures.refused

pub returns-clause-broken : goal.returns-clause-broken
returns-clause-broken c = broken_answer c.args.design.now c.judged.result c.judged.ensures.ok c.judged.ensures.refused
