-- Rule by rule.
use Rattle.rw_front_laws.proofs.Judging.{scoped_total, covered_total, start_total}
use Rattle.rw_front_laws.proofs.laws.names_patterns_and_start_are_judged.Goals as goal

pub returns-clause-names : goal.returns-clause-names
returns-clause-names c = scoped_total

pub returns-clause-patterns : goal.returns-clause-patterns
returns-clause-patterns c = covered_total c.coverage_is_decided.ensures.groups

pub returns-clause-start : goal.returns-clause-start
returns-clause-start c = start_total
