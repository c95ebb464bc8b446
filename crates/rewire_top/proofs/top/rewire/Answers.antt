use Rattle.rewire_top.proofs.Answering.{after_line}
use Rattle.rewire_top.proofs.top.rewire.Goals as goal

pub returns-clause-answered : goal.returns-clause-answered
returns-clause-answered g c =
    after_line _ _ _ _ _ _ _ _ _ c.answer-status.result c.tell.result c.tell.ensures.same c.tell.ensures.kept c.tell.ensures.write_fault c.answer-status.ensures.answered
