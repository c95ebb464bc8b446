-- The law.
use Rattle.rw_lex.proofs.Answering.{one_token_list}
use Rattle.rw_lex.proofs.scan.one_token_list.Goals as goal

pub returns : goal.returns
returns c = one_token_list
