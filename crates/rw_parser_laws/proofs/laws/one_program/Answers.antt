-- One frame, one run of items, and one item for each run.
use Rattle.rw_parser_laws.proofs.Frames.{one_program}
use Rattle.rw_parser_laws.proofs.laws.one_program.Goals as goal

pub returns : goal.returns
returns c = one_program
