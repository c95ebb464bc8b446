-- Behind E13 the program stays the same.
use Rattle.rw_front_laws.proofs.Judging.{accepted_typed}
use Rattle.rw_front_laws.proofs.laws.accepted_programs_are_typed.Goals as goal

pub returns : goal.returns
returns c = accepted_typed c.typability_is_decided.ensures.default
