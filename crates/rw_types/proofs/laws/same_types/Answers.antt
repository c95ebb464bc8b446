-- By the law of tables.
use Rattle.rw_types.proofs.Shared.{same_numbers}
use Rattle.rw_types.proofs.laws.same_types.Goals as goal

pub returns : goal.returns
returns c = same_numbers c.types_as_numbers.ensures
