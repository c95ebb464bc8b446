use Rattle.rw_parser_patterns.proofs.Enough.{type_enough}
use Rattle.rw_parser_patterns.proofs.types.written_type.Goals as goal

pub returns-clause-read : goal.returns-clause-read
returns-clause-read c n h = rw (type_enough n c.args.tokens.now h) c.read_type.ensures.read
