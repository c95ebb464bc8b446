-- The tree is relabelled once.
use Rattle.specialise_mentions_laws.proofs.Closing.{mentioned_is}
use Rattle.specialise_mentions_laws.proofs.laws.mentioned_law.Goals as goal

pub returns : goal.returns
returns c t tree arguments = mentioned_is t tree arguments
