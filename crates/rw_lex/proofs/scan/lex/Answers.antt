-- The clauses of the public call, from what the list function finds.
use Rattle.std.proofs.Common.{Ok, Err}
use Rattle.rw_lex.specs.Tokens.{IsTokenList, Breaks}
use Rattle.rw_lex.proofs.Answering.{tokens_of_source, answers_ok, answers_refused, answers_same, list_there, breaks_there, list_found, breaks_found}
use Rattle.rw_lex.proofs.scan.lex.Goals as goal

pub returns-clause-tokens : goal.returns-clause-tokens
returns-clause-tokens c = answers_ok (λ found. found.items) (IsTokenList c.args.bytes.now) c.scanned.result (tokens_of_source c.args.bytes.now) c.scanned.ensures (list_there c.args.bytes.now)

pub returns-clause-refused : goal.returns-clause-refused
returns-clause-refused c = answers_refused (λ found. found.items) (Breaks c.args.bytes.now) c.scanned.result (tokens_of_source c.args.bytes.now) c.scanned.ensures (breaks_there c.args.bytes.now)

pub returns-clause-listed : goal.returns-clause-listed
returns-clause-listed c tokens d = answers_same (λ found. found.items) c.scanned.result (tokens_of_source c.args.bytes.now) (Ok tokens) c.scanned.ensures (list_found c.args.bytes.now tokens d)

pub returns-clause-broken : goal.returns-clause-broken
returns-clause-broken c refusal d = answers_same (λ found. found.items) c.scanned.result (tokens_of_source c.args.bytes.now) (Err refusal) c.scanned.ensures (breaks_found c.args.bytes.now refusal d)
