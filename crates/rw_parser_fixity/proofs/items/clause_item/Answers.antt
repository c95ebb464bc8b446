-- What is made of a clause decides.
use Rattle.std.proofs.Common.{refl, arith}
use Rattle.rw_parser_chains.specs.Fixities.{strength_at}
use Rattle.rw_parser_chains.proofs.Clauses.{clause_kept, clause_none, clause_deep}
use Rattle.rw_parser_fixity.proofs.items.clause_item.Goals as goal

pub returns-then-levels-lt-MAX_LEVELS : goal.returns-then-levels-lt-MAX_LEVELS
returns-then-levels-lt-MAX_LEVELS c = clause_kept (strength_at c.args.fixities.now) c.args.row.now c.in-Ok.made c.in-Ok.levels c.in-Ok.ensures (omega arith)

pub returns-else-levels-lt-MAX_LEVELS : goal.returns-else-levels-lt-MAX_LEVELS
returns-else-levels-lt-MAX_LEVELS c = rw c.refused.ensures (refl, (clause_deep (strength_at c.args.fixities.now) c.args.row.now c.in-Ok.made c.in-Ok.levels c.in-Ok.ensures (omega arith), refl))

pub returns-in-Err-Refused : goal.returns-in-Err-Refused
returns-in-Err-Refused c = rw c.refused-in-Err-Refused.ensures (refl, (clause_none (strength_at c.args.fixities.now) c.args.row.now (rw c.in-Err-Refused.field-0-is at c.in-Err-Refused.ensures), refl))
