use Rattle.rw_front.proofs.Whole.{verdict_exact}
use Rattle.rw_front.proofs.laws.one_verdict.Goals as goal

pub returns : goal.returns
returns c =
    verdict_exact c.one_token_list.ensures c.never_both.ensures c.one_refusal.ensures c.one_program.ensures c.one_place.ensures.apart c.one_place.ensures.place
    c.one_program_resolved.ensures.one c.one_program_resolved.ensures.apart c.one_program_resolved.ensures.one_place c.verdict_law.ensures.holds c.exact_law.ensures.typable
