use Rattle.rw_parser_patterns.proofs.Enough.{atype_enough}
use Rattle.rw_parser_patterns.proofs.Kept.{atype_cut}
use Rattle.rw_parser_patterns.proofs.types.atype.Goals as goal

pub returns-clause-read : goal.returns-clause-read
returns-clause-read c n h = rw (atype_enough n c.args.tokens.now h, ← atype_cut c.args.room c.args.tokens.now) c.read_atype.ensures.read

pub returns-clause-any : goal.returns-clause-any
returns-clause-any c = rw (← atype_cut c.args.room c.args.tokens.now) c.read_atype.ensures.read
