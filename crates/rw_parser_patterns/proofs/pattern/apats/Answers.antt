use Rattle.rw_parser_patterns.proofs.Enough.{apats_enough}
use Rattle.rw_parser_patterns.proofs.pattern.apats.Goals as goal

pub returns-clause-read : goal.returns-clause-read
returns-clause-read c n h = rw (apats_enough n c.args.tokens.now h) c.read_apats.ensures.read
