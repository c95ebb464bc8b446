-- Both ways: what is spelled tells the answer.
use Rattle.std.proofs.Common.{rules}
use Rattle.rw_parser.proofs.Whole.{kept_answer, grammar_answer, chain_answer}
use Rattle.rw_parser.proofs.parser.parse.Goals as goal

pub returns-clause-parses : goal.returns-clause-parses
returns-clause-parses c = search rules

pub returns-clause-kept : goal.returns-clause-kept
returns-clause-kept c = λ program resolved d e. kept_answer c.args.tokens.now program resolved c.parse_over.result d e (returns-clause-parses c)

pub returns-clause-unspelled : goal.returns-clause-unspelled
returns-clause-unspelled c = λ at b. grammar_answer c.args.tokens.now at c.parse_over.result b (returns-clause-parses c)

pub returns-clause-broken : goal.returns-clause-broken
returns-clause-broken c = λ program at d b. chain_answer c.args.tokens.now program at c.parse_over.result d b (returns-clause-parses c)
