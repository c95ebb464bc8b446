-- Both are the exactness of reading.
use Rattle.rw_parser_laws.proofs.ReadLevels.{clause_level}
use Rattle.rw_parser_laws.proofs.laws.clauses_are_read.Goals as goal

pub returns-clause-spelled : goal.returns-clause-spelled
returns-clause-spelled c = λ n tokens rest name row e. (clause_level n).sound tokens ((name, row), rest) e

pub returns-clause-read : goal.returns-clause-read
returns-clause-read c = λ n tokens rest name row d s. (clause_level n).complete tokens (name, row) rest d s
