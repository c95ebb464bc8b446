-- Both are the exactness of reading.
use Rattle.rw_parser_laws.proofs.ReadTypes.{type_level}
use Rattle.rw_parser_laws.proofs.laws.types_are_read.Goals as goal

pub returns-clause-spelled : goal.returns-clause-spelled
returns-clause-spelled c = λ n tokens rest type e. (type_level n).0.sound tokens (type, rest) e

pub returns-clause-read : goal.returns-clause-read
returns-clause-read c = λ n tokens rest type d s. (type_level n).0.complete tokens type rest d s
