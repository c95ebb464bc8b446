use Rattle.rw_parser_patterns.proofs.Enough.{atypes_enough}
use Rattle.rw_parser_patterns.proofs.types.atypes.Goals as goal

pub returns-clause-read : goal.returns-clause-read
returns-clause-read c n h = rw (atypes_enough n c.args.tokens.now h) c.read_atypes.ensures.read
