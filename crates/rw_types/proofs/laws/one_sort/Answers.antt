-- By the lemma.
use Rattle.rw_types.proofs.Sorting.{one_sort}
use Rattle.rw_types.proofs.laws.one_sort.Goals as goal

pub returns : goal.returns
returns c = one_sort
