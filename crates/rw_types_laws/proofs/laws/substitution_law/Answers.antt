-- Node by node.
use Rattle.rw_types_laws.proofs.Substituting.{declaration_agrees}
use Rattle.rw_types_laws.proofs.laws.substitution_law.Goals as goal

pub returns : goal.returns
returns c = declaration_agrees
