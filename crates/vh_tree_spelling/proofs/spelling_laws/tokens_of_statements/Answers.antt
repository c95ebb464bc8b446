-- One equation for each form.
use Rattle.vh_tree_spelling.proofs.Equations.{tokens_assign, tokens_if, tokens_branch}
use Rattle.vh_tree_spelling.proofs.spelling_laws.tokens_of_statements.Goals as goal

pub returns-clause-assign : goal.returns-clause-assign
returns-clause-assign c = tokens_assign

pub returns-clause-choice : goal.returns-clause-choice
returns-clause-choice c = tokens_if

pub returns-clause-branch : goal.returns-clause-branch
returns-clause-branch c = tokens_branch
