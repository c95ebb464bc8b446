-- The tree is relabelled once.
use Rattle.specialise_mentions_laws.proofs.Closing.{types_are}
use Rattle.specialise_mentions_laws.proofs.laws.types_law.Goals as goal

pub returns : goal.returns
returns c t tree arguments = types_are t tree arguments
