use Rattle.std.proofs.Common.{length}
use Rattle.rw_parser_patterns.proofs.Enough.{some_patterns_enough}
use Rattle.rw_parser_patterns.proofs.pattern.patterns.Goals as goal

pub returns-clause-read : goal.returns-clause-read
returns-clause-read c n h = rw (some_patterns_enough n (length c.args.tokens.now) c.args.tokens.now h) c.read_patterns.ensures.read
