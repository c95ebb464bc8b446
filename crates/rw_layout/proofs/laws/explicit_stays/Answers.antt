-- The law.
use Rattle.rw_layout.proofs.Explicit.{explicit_whole}
use Rattle.rw_layout.proofs.laws.explicit_stays.Goals as goal

pub returns : goal.returns
returns c tokens filled written is = explicit_whole tokens filled written is
