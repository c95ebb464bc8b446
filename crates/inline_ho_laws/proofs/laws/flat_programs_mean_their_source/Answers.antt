-- The law, by the induction on flattening.
use Rattle.inline_ho_laws.proofs.Outputs.{denoted}
use Rattle.inline_ho_laws.proofs.laws.flat_programs_mean_their_source.Goals as goal

pub returns : goal.returns
returns c = denoted
