-- All are what reading gives.
use Rattle.rw_parser_laws.proofs.ReadProgram.{one_answer, no_two_answers, one_place_of}
use Rattle.rw_parser_laws.proofs.laws.one_place.Goals as goal

pub returns-clause-either : goal.returns-clause-either
returns-clause-either c = one_answer

pub returns-clause-apart : goal.returns-clause-apart
returns-clause-apart c = no_two_answers

pub returns-clause-place : goal.returns-clause-place
returns-clause-place c = one_place_of
