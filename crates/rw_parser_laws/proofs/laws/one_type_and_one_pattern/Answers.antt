-- Both are what reading gives.
use Rattle.std.proofs.Common.{ap}
use Rattle.rw_parser_reading.proofs.ReadExact.{one_front}
use Rattle.rw_parser_laws.proofs.ReadTypes.{type_level}
use Rattle.rw_parser_laws.proofs.ReadPatterns.{pattern_level}
use Rattle.rw_parser_laws.proofs.laws.one_type_and_one_pattern.Goals as goal

pub returns-clause-types : goal.returns-clause-types
returns-clause-types c = λ n tokens first second a b d s k z. ap (λ p. p.0) (one_front (type_level n).0 tokens (a, first) (b, second) d s k z)

pub returns-clause-patterns : goal.returns-clause-patterns
returns-clause-patterns c = λ n tokens first second a b d s k z. ap (λ p. p.0) (one_front (pattern_level n).0 tokens (a, first) (b, second) d s k z)
