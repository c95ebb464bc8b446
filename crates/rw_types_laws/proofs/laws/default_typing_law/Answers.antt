-- What is left is closed, sort by sort.
use Rattle.rw_types_laws.proofs.Defaults.{default_typing, default_stays, no_variable}
use Rattle.rw_types_laws.proofs.laws.default_typing_law.Goals as goal

pub returns-clause-typing : goal.returns-clause-typing
returns-clause-typing c = default_typing

pub returns-clause-stays : goal.returns-clause-stays
returns-clause-stays c = default_stays

pub returns-clause-no_variable : goal.returns-clause-no_variable
returns-clause-no_variable c = no_variable
