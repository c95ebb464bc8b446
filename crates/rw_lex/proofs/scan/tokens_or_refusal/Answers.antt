-- The law.
use Rattle.rw_lex.proofs.Answering.{one_or_other}
use Rattle.rw_lex.proofs.scan.tokens_or_refusal.Goals as goal

pub returns : goal.returns
returns c = one_or_other
