-- Both are what reading gives.
use Rattle.std.proofs.Common.{ap, refl}
use Rattle.rw_parser_reading.proofs.ReadExact.{one_front}
use Rattle.rw_parser_laws.proofs.ReadLevels.{level}
use Rattle.rw_parser_laws.proofs.laws.one_expression_and_one_block.Goals as goal

pub returns-clause-expressions : goal.returns-clause-expressions
returns-clause-expressions c = λ n tokens first second a b d s k z. ap (λ p. p.0) (one_front (level n).expression tokens (a, first) (b, second) d s k z)

pub returns-clause-blocks : goal.returns-clause-blocks
returns-clause-blocks c = λ n tokens first second a b d k. ap (λ p. p.0) (one_front (level n).locals tokens (a, first) (b, second) d refl k refl)
