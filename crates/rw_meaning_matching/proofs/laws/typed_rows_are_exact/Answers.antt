-- Declaration by declaration.
use Rattle.rw_meaning_matching.proofs.Programs.{program_fits}
use Rattle.rw_meaning_matching.proofs.laws.typed_rows_are_exact.Goals as goal

pub returns : goal.returns
returns c = program_fits
