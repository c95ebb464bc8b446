-- Both denote the same.
use Rattle.rw_core_layered_laws.proofs.Programs.{denotes_flat}
use Rattle.rw_core_layered_laws.proofs.laws.layered_programs_are_flat.Goals as goal

pub returns : goal.returns
returns c = denotes_flat
