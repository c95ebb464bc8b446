use Rattle.rw_parser_patterns.proofs.Enough.{pattern_enough, any_pattern_over}
use Rattle.rw_parser_patterns.proofs.pattern.read_pattern.Goals as goal

pub returns-clause-read : goal.returns-clause-read
returns-clause-read c n h = rw (pattern_enough n c.args.tokens.now h, any_pattern_over c.args.tokens.now) c.read_pat.ensures.read

pub returns-clause-any : goal.returns-clause-any
returns-clause-any c = rw (any_pattern_over c.args.tokens.now) c.read_pat.ensures.read
