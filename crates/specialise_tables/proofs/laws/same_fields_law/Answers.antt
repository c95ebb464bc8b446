-- By induction on what is seen.
use Rattle.specialise_tables.proofs.Opened.{sees_same, fields_in_world}
use Rattle.specialise_tables.proofs.laws.same_fields_law.Goals as goal

pub returns-clause-same : goal.returns-clause-same
returns-clause-same c world other e table types after s = sees_same world other e s

pub returns-clause-alone : goal.returns-clause-alone
returns-clause-alone c fields = fields_in_world fields
