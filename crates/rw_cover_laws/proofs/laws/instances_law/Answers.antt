-- An instance is types of the columns.
use Rattle.rw_cover.specs.Coverage.{groups_of}
use Rattle.rw_cover_laws.specs.Columns.{columns_of, untyped, world_in}
use Rattle.rw_cover_laws.proofs.Programs.{program_stands, have_types}
use Rattle.rw_cover_laws.proofs.laws.instances_law.Goals as goal

pub returns : goal.returns
returns c = λ typed agrees have. have_types (world_in typed) (groups_of (untyped typed)) (columns_of typed) (program_stands typed agrees) have
