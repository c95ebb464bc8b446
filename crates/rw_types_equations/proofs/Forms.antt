-- The typed trees of a numbered tree, by its variants.
use Rattle.rw_tree.proofs.Plains.{pattern-Wild, pattern-Var, pattern-Con, pattern-Tuple}
use Rattle.rw_tree.proofs.Plains.{expression-Var, expression-Con, expression-Apply, expression-Tuple, expression-Chain, expression-Lambda, expression-Let, expression-If, expression-Case, expression-Do}

pub ruleset pattern_forms = (pattern-Wild, pattern-Var, pattern-Con, pattern-Tuple)

pub ruleset expression_forms = (expression-Var, expression-Con, expression-Apply, expression-Tuple, expression-Chain, expression-Lambda, expression-Let, expression-If, expression-Case, expression-Do)
