-- A name without a declaration is `infixl 9`.
use Rattle.std.proofs.Common.{ap}
use Rattle.rw_parser_chains.specs.Fixities.{or_left_nine, strength_at}
use Rattle.rw_parser_chains.proofs.fixities.Fixities.strength.Goals as goal

pub returns-in-Some : goal.returns-in-Some
unfolding strength_at
returns-in-Some c = ap or_left_nine c.in-Some.ensures

pub returns-in-None : goal.returns-in-None
unfolding strength_at
returns-in-None c = ap or_left_nine c.in-None.ensures
