-- What is to come is dashes where all is.
use Rattle.std.proofs.Common.{◌≡◌, nat_eq, drop}
use Rattle.std.specs.List.{list_all}
use Rattle.rw_lex.proofs.piece.all_dashes.Given as goal

abbrev pub invariant-loop-b : goal.invariant-loop-b
invariant-loop-b l = list_all (nat_eq 45) (drop l.b-index l.piece) ≡ list_all (nat_eq 45) l.piece
