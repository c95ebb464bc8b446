-- Pattern by pattern.
use Rattle.rw_meaning_matching.proofs.Matches.{row_goes}
use Rattle.rw_meaning_matching.proofs.laws.rows_are_matched.Goals as goal

pub returns : goal.returns
returns c = λ program counts pats columns given ts exact are same stand. row_goes program counts pats columns given ts exact are same stand
