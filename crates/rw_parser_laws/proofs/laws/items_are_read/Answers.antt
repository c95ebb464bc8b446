-- Both are the exactness of reading.
use Rattle.rw_parser_laws.proofs.ReadItems.{item_exact}
use Rattle.rw_parser_laws.proofs.laws.items_are_read.Goals as goal

pub returns-clause-spelled : goal.returns-clause-spelled
returns-clause-spelled c = λ n tokens rest item e. (item_exact n).sound tokens (item, rest) e

pub returns-clause-read : goal.returns-clause-read
returns-clause-read c = λ n tokens rest item d s. (item_exact n).complete tokens item rest d s
