-- The test says it.
use Rattle.rw_types.proofs.Sorting.{sort_test}
use Rattle.rw_types.proofs.sorted.is_of_sort.Goals as goal

pub returns : goal.returns
returns c = sort_test _ _ c.args.sort _ _ c.is_sorted.ensures
