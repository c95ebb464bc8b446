-- Both are what reading gives.
use Rattle.std.proofs.Common.{ap}
use Rattle.rw_parser_reading.proofs.ReadExact.{one_front}
use Rattle.rw_parser_laws.proofs.ReadItems.{item_exact}
use Rattle.rw_parser_laws.proofs.laws.one_item.Goals as goal

pub returns : goal.returns
returns c = λ n tokens first second a b d s k z. ap (λ p. p.0) (one_front (item_exact n) tokens (a, first) (b, second) d s k z)
