-- Part by part.
use Rattle.rw_meaning_matching.proofs.Matches.{pattern_goes}
use Rattle.rw_meaning_matching.proofs.laws.patterns_are_matched.Goals as goal

pub returns : goal.returns
returns c = λ program counts p shape v t exact is stands. pattern_goes program counts p shape v t exact is stands
