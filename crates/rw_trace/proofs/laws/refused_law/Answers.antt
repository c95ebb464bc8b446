-- The two laws.
use Rattle.rw_trace.proofs.Refused.{refused_law, read_law}
use Rattle.rw_trace.proofs.laws.refused_law.Goals as goal

pub returns-clause-refused : goal.returns-clause-refused
returns-clause-refused c = refused_law

pub returns-clause-read : goal.returns-clause-read
returns-clause-read c = read_law
