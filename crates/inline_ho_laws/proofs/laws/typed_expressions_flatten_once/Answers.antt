-- One term at most, by the induction on both.
use Rattle.inline_ho_laws.proofs.Once.{flat_once}
use Rattle.inline_ho_laws.proofs.laws.typed_expressions_flatten_once.Goals as goal

pub returns : goal.returns
returns c program function_of clauses_of number_of next names arguments e first second f g = flat_once program function_of clauses_of number_of f g
