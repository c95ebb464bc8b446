-- In a proper table types are told apart by their numbers.
use Rattle.std.proofs.Common.{ap}
use Rattle.rw_types_shared.specs.Shared.{type_at}
use Rattle.rw_types_shared.proofs.Numbers.{told_apart}
use Rattle.rw_types_shared.proofs.laws.types_as_numbers.Goals as goal

pub returns : goal.returns
returns c nodes p m n k l = (told_apart nodes p m n k l, ap (type_at nodes))
