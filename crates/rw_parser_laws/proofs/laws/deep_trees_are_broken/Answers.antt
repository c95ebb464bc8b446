-- Tree by tree.
use Rattle.std.proofs.Common.{arith}
use Rattle.rw_parser_laws.proofs.Deep.{declaration_deep, deep_row}
use Rattle.rw_parser_laws.proofs.laws.deep_trees_are_broken.Goals as goal

pub returns-clause-declarations : goal.returns-clause-declarations
returns-clause-declarations c = λ strength a b d. let h = declaration_deep {strength = strength} d in omega arith

pub returns-clause-clauses : goal.returns-clause-clauses
returns-clause-clauses c = λ strength row h. deep_row {strength = strength} row h
