-- Without a capital letter the word is as it would be in lower case.
use Rattle.std.proofs.Common.{sym, ◌∙◌}
use Rattle.vhdl_read.proofs.Words.{no_capital}
use Rattle.vhdl_read.proofs.word.word_token.Goals as goal

pub returns : goal.returns
returns c = rw (no_capital c.args.word.now (sym c.has_capital.ensures ∙ c.if-has_capital.false)) c.low_word-2.ensures
