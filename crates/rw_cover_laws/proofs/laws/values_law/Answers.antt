-- What covers at all types covers at these.
use Rattle.rw_cover.specs.Coverage.{groups_of}
use Rattle.rw_cover_laws.specs.Columns.{columns_of, untyped, world_in}
use Rattle.rw_cover_laws.proofs.Programs.{program_stands, all_match}
use Rattle.rw_cover_laws.proofs.laws.values_law.Goals as goal

pub returns : goal.returns
returns c = λ typed agrees covered. all_match (world_in typed) (groups_of (untyped typed)) (columns_of typed) (program_stands typed agrees) covered
