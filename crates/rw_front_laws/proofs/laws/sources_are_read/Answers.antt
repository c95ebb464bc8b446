-- Stage by stage.
use Rattle.rw_front_laws.proofs.Reading.{read_total}
use Rattle.rw_front_laws.proofs.laws.sources_are_read.Goals as goal

pub returns : goal.returns
returns c = read_total c.tokens_or_refusal.ensures c.one_place.ensures.either c.each_program_is_judged.ensures
