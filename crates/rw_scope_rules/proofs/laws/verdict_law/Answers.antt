-- No rule is broken exactly where all hold.
use Rattle.rw_scope_rules.proofs.FirstBroken.{holds_where_none_is_broken}
use Rattle.rw_scope_rules.proofs.laws.verdict_law.Goals as goal

pub returns-clause-holds : goal.returns-clause-holds
returns-clause-holds c = holds_where_none_is_broken
