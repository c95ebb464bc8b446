-- Both are the exactness of reading.
use Rattle.rw_parser_laws.proofs.ReadPatterns.{pattern_level}
use Rattle.rw_parser_laws.proofs.laws.patterns_are_read.Goals as goal

pub returns-clause-spelled : goal.returns-clause-spelled
returns-clause-spelled c = λ n tokens rest pat e. (pattern_level n).0.sound tokens (pat, rest) e

pub returns-clause-read : goal.returns-clause-read
returns-clause-read c = λ n tokens rest pat d s. (pattern_level n).0.complete tokens pat rest d s
