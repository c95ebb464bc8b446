-- Both are the exactness of reading.
use Rattle.std.proofs.Common.{refl}
use Rattle.rw_parser_laws.proofs.ReadLevels.{level}
use Rattle.rw_parser_laws.proofs.laws.locals_are_read.Goals as goal

pub returns-clause-spelled : goal.returns-clause-spelled
returns-clause-spelled c = λ n tokens rest locals e. (level n).locals.sound tokens (locals, rest) e

pub returns-clause-read : goal.returns-clause-read
returns-clause-read c = λ n tokens rest locals d. (level n).locals.complete tokens locals rest d refl
