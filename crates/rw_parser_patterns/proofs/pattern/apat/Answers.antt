use Rattle.rw_parser_patterns.proofs.Enough.{apat_enough}
use Rattle.rw_parser_patterns.proofs.pattern.apat.Goals as goal

pub returns-clause-read : goal.returns-clause-read
returns-clause-read c n h = rw (apat_enough n c.args.tokens.now h) c.read_apat.ensures.read
