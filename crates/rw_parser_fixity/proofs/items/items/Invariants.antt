-- What the declarations so far say of all of them.
use Rattle.rw_parser_chains.specs.Fixities.{strength_at}
use Rattle.rw_parser_fixity.proofs.Listed.{SoFar}
use Rattle.rw_parser_fixity.proofs.items.items.Given as goal

abbrev pub invariant-loop-decl : goal.invariant-loop-decl
invariant-loop-decl l = SoFar (strength_at l.fixities) l.decls l.made l.decl-index
