-- Equation by equation.
use Rattle.rw_types_unifiers.proofs.Unifying.{solved}
use Rattle.rw_types_unifiers.proofs.laws.equations_are_solved.Goals as goal

pub returns : goal.returns
returns c = solved
