-- The laws of widths.
use Rattle.vh_tree_laws.proofs.ExprWidth.{has_width}
use Rattle.vh_tree_laws.proofs.DesignWidth.{functions_width, processes_width}
use Rattle.vh_tree_laws.proofs.meaning_laws.width_law.Goals as goal

pub returns-clause-expression : goal.returns-clause-expression
returns-clause-expression c = has_width

pub returns-clause-function : goal.returns-clause-function
returns-clause-function c = functions_width

pub returns-clause-process : goal.returns-clause-process
returns-clause-process c = processes_width
