-- All are the exactness of reading.
use Rattle.rw_parser_laws.proofs.ReadProgram.{program_sound, program_read, place_sound, place_read}
use Rattle.rw_parser_laws.proofs.laws.programs_are_read.Goals as goal

pub returns-clause-spelled : goal.returns-clause-spelled
returns-clause-spelled c = program_sound

pub returns-clause-read : goal.returns-clause-read
returns-clause-read c = program_read

pub returns-clause-broken : goal.returns-clause-broken
returns-clause-broken c = place_sound

pub returns-clause-refused : goal.returns-clause-refused
returns-clause-refused c = place_read
