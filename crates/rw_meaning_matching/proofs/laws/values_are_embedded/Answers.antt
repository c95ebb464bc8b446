-- Field by field.
use Rattle.rw_meaning_matching.proofs.Standing.{embedded, taken_back, embedded_once}
use Rattle.rw_meaning_matching.proofs.laws.values_are_embedded.Goals as goal

pub returns-clause-embedded : goal.returns-clause-embedded
returns-clause-embedded c = λ program t v h. embedded program v t h

pub returns-clause-back : goal.returns-clause-back
returns-clause-back c = λ program t v h. taken_back program v t h

pub returns-clause-one : goal.returns-clause-one
returns-clause-one c = embedded_once
