-- The equations of statements.
use Rattle.vh_tree_equations.specs.contracts.equation_laws.statement_law.{S-type}
use Rattle.vh_tree_equations.specs.Equations.{stmt_of-Assign, stmt_of-If, branch_of-Branch}
use Rattle.vh_tree_equations.proofs.equation_laws.statement_law.Goals as goal

pub returns-clause-assign : goal.returns-clause-assign
returns-clause-assign g c = stmt_of-Assign (S-type g.row.S)

pub returns-clause-choice : goal.returns-clause-choice
returns-clause-choice g c = stmt_of-If (S-type g.row.S)

pub returns-clause-branch : goal.returns-clause-branch
returns-clause-branch g c = branch_of-Branch (S-type g.row.S)
