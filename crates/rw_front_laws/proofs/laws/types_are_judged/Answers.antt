-- Declaration by declaration.
use Rattle.rw_front_laws.proofs.Judging.{typed_total}
use Rattle.rw_front_laws.proofs.laws.types_are_judged.Goals as goal

pub returns : goal.returns
returns c = typed_total c.typability_is_decided.ensures.typable
