-- The law.
use Rattle.rw_lex.proofs.Answering.{never_both}
use Rattle.rw_lex.proofs.scan.never_both.Goals as goal

pub returns : goal.returns
returns c = never_both
