-- Stage by stage.
use Rattle.rw_front_laws.proofs.Judging.{verdict_total, exactly_one}
use Rattle.rw_front_laws.proofs.laws.each_source_has_a_verdict.Goals as goal

pub returns-clause-some : goal.returns-clause-some
returns-clause-some c = verdict_total c.sources_are_read.ensures c.types_are_judged.ensures c.names_patterns_and_start_are_judged.ensures.patterns

pub returns-clause-exactly_one : goal.returns-clause-exactly_one
returns-clause-exactly_one c = exactly_one c.sources_are_read.ensures c.types_are_judged.ensures c.names_patterns_and_start_are_judged.ensures.patterns c.one_verdict.ensures
