-- Both are the exactness of reading.
use Rattle.rw_parser_laws.proofs.ReadRuns.{frame_sound, frame_read}
use Rattle.rw_parser_laws.proofs.laws.frames_are_read.Goals as goal

pub returns-clause-framed : goal.returns-clause-framed
returns-clause-framed c = frame_sound

pub returns-clause-read : goal.returns-clause-read
returns-clause-read c = λ tokens runs d. frame_read d
