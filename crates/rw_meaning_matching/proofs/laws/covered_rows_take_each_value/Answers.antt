-- What matches a row of the matrix is taken by that row of the tree.
use Rattle.rw_meaning_matching.proofs.Programs.{program_takes, typings_take}
use Rattle.rw_meaning_matching.proofs.laws.covered_rows_take_each_value.Goals as goal

pub returns-clause-agreeing : goal.returns-clause-agreeing
returns-clause-agreeing c = program_takes

pub returns-clause-typings : goal.returns-clause-typings
returns-clause-typings c = typings_take
