-- By what the answer is.
use Rattle.vhdl_read.proofs.Answering.{answer_spelled, answer_bytes, answer_tokens, answer_grammar}
use Rattle.vhdl_read.proofs.spelled.read_spelled.Goals as goal

pub returns-clause-spelled : goal.returns-clause-spelled
returns-clause-spelled c = answer_spelled c.one_design_for_a_text.ensures c.tokens_are_scanned.ensures c.args.bytes.now c.answer.result c.answer.ensures

pub returns-clause-v1 : goal.returns-clause-v1
returns-clause-v1 c = answer_bytes c.args.bytes.now c.answer.result c.answer.ensures

pub returns-clause-v2 : goal.returns-clause-v2
returns-clause-v2 c = answer_tokens c.args.bytes.now c.answer.result c.answer.ensures

pub returns-clause-v3 : goal.returns-clause-v3
returns-clause-v3 c = answer_grammar c.tokens_are_scanned.ensures c.args.bytes.now c.answer.result c.answer.ensures
