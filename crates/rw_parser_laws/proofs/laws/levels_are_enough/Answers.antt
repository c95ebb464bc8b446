-- Each reader agrees with itself at more levels.
use Rattle.rw_parser_reading.proofs.Agree.{types_agree, patterns_agree}
use Rattle.rw_parser_laws.proofs.Enough.{expressions_agree, locals_agree, items_agree, enough}
use Rattle.rw_parser_laws.proofs.laws.levels_are_enough.Goals as goal

pub returns-clause-types : goal.returns-clause-types
returns-clause-types c = enough types_agree

pub returns-clause-patterns : goal.returns-clause-patterns
returns-clause-patterns c = enough patterns_agree

pub returns-clause-expressions : goal.returns-clause-expressions
returns-clause-expressions c = enough (λ k n j. expressions_agree n k j)

pub returns-clause-blocks : goal.returns-clause-blocks
returns-clause-blocks c = enough (λ k n j. locals_agree n k j)

pub returns-clause-items : goal.returns-clause-items
returns-clause-items c = enough items_agree
