-- Column by column, and group by group.
use Rattle.rw_cover_decision.proofs.Decided.{rows_decided, groups_decided}
use Rattle.rw_cover_decision.proofs.laws.coverage_is_decided.Goals as goal

pub returns-clause-rows : goal.returns-clause-rows
returns-clause-rows c = rows_decided

pub returns-clause-groups : goal.returns-clause-groups
returns-clause-groups c = groups_decided
