-- A new generator gave no word.
use Rattle.rand_pcg.specs.Lcg.{state_after}
use Rattle.rw_gen.specs.Workload.{generator_at}
use Rattle.rw_gen.proofs.draws.generator.Goals as goal

pub returns : goal.returns
unfolding generator_at state_after
returns c = c.new.ensures
