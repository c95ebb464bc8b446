-- Well-typed trees give values of their types.
use Rattle.rw_core_selected.proofs.Values.{tree_gives, functions_keep}
use Rattle.rw_core_selected.proofs.laws.typed_trees_give_values.Goals as goal

pub returns-clause-trees : goal.returns-clause-trees
returns-clause-trees c types signatures calls h g t d typed env fit v e = tree_gives types signatures calls h typed env fit v e

pub returns-clause-functions : goal.returns-clause-functions
returns-clause-functions c = functions_keep
