-- Both are the exactness of reading.
use Rattle.rw_parser_laws.proofs.ReadLevels.{level}
use Rattle.rw_parser_laws.proofs.laws.expressions_are_read.Goals as goal

pub returns-clause-spelled : goal.returns-clause-spelled
returns-clause-spelled c = λ n tokens rest exp e. (level n).expression.sound tokens (exp, rest) e

pub returns-clause-read : goal.returns-clause-read
returns-clause-read c = λ n tokens rest exp d s. (level n).expression.complete tokens exp rest d s
