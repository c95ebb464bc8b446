-- By induction on what is seen.
use Rattle.specialise_laws.proofs.Seeing.{sees_once}
use Rattle.specialise_laws.proofs.laws.one_table_law.Goals as goal

pub returns : goal.returns
returns c world table types first second s r = sees_once s r
