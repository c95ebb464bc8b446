-- By which of the two, the reader or the check, the judgment comes from.
use Rattle.vhdl_read.proofs.Judging.{judged_ok, judged_refused, judged_memory, judged_spelled, judged_broken, judged_bytes, judged_canonical}
use Rattle.vhdl_read.proofs.judged.read.Goals as goal

pub returns-clause-ok : goal.returns-clause-ok
returns-clause-ok c = judged_ok c.args.bytes.now c.judgment.result c.judgment.ensures

pub returns-clause-refused : goal.returns-clause-refused
returns-clause-refused c = judged_refused c.args.bytes.now c.judgment.result c.judgment.ensures

pub returns-clause-memory : goal.returns-clause-memory
returns-clause-memory c = judged_memory c.args.bytes.now c.judgment.result c.judgment.ensures

pub returns-clause-spelled : goal.returns-clause-spelled
returns-clause-spelled c = judged_spelled c.one_design_for_a_text.ensures c.tokens_are_scanned.ensures c.first_broken_law.ensures c.args.bytes.now c.judgment.result c.judgment.ensures

pub returns-clause-broken : goal.returns-clause-broken
returns-clause-broken c = judged_broken c.one_design_for_a_text.ensures c.tokens_are_scanned.ensures c.first_broken_law.ensures c.args.bytes.now c.judgment.result c.judgment.ensures

pub returns-clause-v1 : goal.returns-clause-v1
returns-clause-v1 c = judged_bytes c.args.bytes.now c.judgment.result c.judgment.ensures

pub returns-clause-round_trip : goal.returns-clause-round_trip
returns-clause-round_trip c =
    judged_canonical c.one_design_for_a_text.ensures c.tokens_are_scanned.ensures c.first_broken_law.ensures c.spellable_designs_are_spelled.ensures c.args.bytes.now c.judgment.result c.judgment.ensures
