-- Declaration by declaration.
use Rattle.rw_cover_laws.proofs.Programs.{program_stands}
use Rattle.rw_cover_laws.proofs.laws.typed_rows_law.Goals as goal

pub returns : goal.returns
returns c = program_stands
