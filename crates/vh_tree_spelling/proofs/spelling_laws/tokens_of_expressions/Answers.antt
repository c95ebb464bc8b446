-- One equation for each form.
use Rattle.vh_tree_spelling.proofs.Equations.{tokens_name, tokens_slice, tokens_literal, tokens_call, tokens_join}
use Rattle.vh_tree_spelling.proofs.spelling_laws.tokens_of_expressions.Goals as goal

pub returns-clause-name : goal.returns-clause-name
returns-clause-name c = tokens_name

pub returns-clause-slice : goal.returns-clause-slice
returns-clause-slice c = tokens_slice

pub returns-clause-literal : goal.returns-clause-literal
returns-clause-literal c = tokens_literal

pub returns-clause-call : goal.returns-clause-call
returns-clause-call c = tokens_call

pub returns-clause-join : goal.returns-clause-join
returns-clause-join c = tokens_join
