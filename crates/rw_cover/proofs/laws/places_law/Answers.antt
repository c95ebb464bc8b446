-- Rows that have types either cover or don't.
use Rattle.rw_cover.proofs.Answer.{one_list, both_answers}
use Rattle.rw_cover.proofs.laws.places_law.Goals as goal

pub returns-clause-one : goal.returns-clause-one
returns-clause-one c = one_list

pub returns-clause-untyped : goal.returns-clause-untyped
returns-clause-untyped c = both_answers
