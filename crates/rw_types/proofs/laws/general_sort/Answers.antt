-- By the lemma.
use Rattle.rw_types.proofs.Sorting.{general_sort}
use Rattle.rw_types.proofs.laws.general_sort.Goals as goal

pub returns : goal.returns
returns c = λ v w sorts k t a. general_sort v w sorts t k a
