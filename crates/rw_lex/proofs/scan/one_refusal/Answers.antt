-- The law.
use Rattle.rw_lex.proofs.Answering.{one_refusal}
use Rattle.rw_lex.proofs.scan.one_refusal.Goals as goal

pub returns : goal.returns
returns c = one_refusal
