-- An argument is in the table.
use Rattle.specialise_types.proofs.Closed.{argument_below}
use Rattle.specialise_types.proofs.closing.argument.Goals as goal

pub returns-in-Some-clause-within : goal.returns-in-Some-clause-within
returns-in-Some-clause-within c = argument_below _ _ _ _ c.requires.arguments c.in-Some.ensures.lookup.3.0 c.in-Some.ensures.lookup.1
