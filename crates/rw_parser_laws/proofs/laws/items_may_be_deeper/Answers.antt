-- Level by level.
use Rattle.std.proofs.Common.{◌+◌, refl}
use Rattle.rw_parser_laws.proofs.Deeper.{item_deeper}
use Rattle.rw_parser_laws.proofs.laws.items_may_be_deeper.Goals as goal

pub returns : goal.returns
returns c = λ more n tokens rest item d. item_deeper more n (more + n) refl tokens item rest d
