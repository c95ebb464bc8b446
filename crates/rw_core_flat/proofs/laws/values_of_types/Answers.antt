-- Values by what a type has and by its table.
use Rattle.rw_core_flat.proofs.Values.{value_of_fit, fit_of_value}
use Rattle.rw_core_flat.proofs.laws.values_of_types.Goals as goal

pub returns : goal.returns
returns c types table h d v = (value_of_fit types table h d v, fit_of_value types table h d v)
