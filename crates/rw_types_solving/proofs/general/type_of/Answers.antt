-- One variable: what it comes to, and where that is too large.
use Rattle.std.proofs.Common.{◌<◌, subst}
use Rattle.rw_types_solving.specs.Tables.{most}
use Rattle.rw_types_solving.proofs.MostGeneral.{made_var, count_large, var_large}
use Rattle.rw_types_solving.proofs.general.type_of.Goals as goal

pub returns-then-count-gt-MOST-clause-refused : goal.returns-then-count-gt-MOST-clause-refused
returns-then-count-gt-MOST-clause-refused c = λ _ s f. count_large _ s _ (c.in-Ok.ensures.made s f) (subst (λ z. most < z) c.count.ensures c.if-count-gt-MOST.true)

pub returns-in-Ok-clause-made : goal.returns-in-Ok-clause-made
returns-in-Ok-clause-made c = λ s f. made_var _ s _ (c.in-Ok.ensures.made s f)

pub returns-clause-refused : goal.returns-clause-refused
returns-clause-refused c = λ e. var_large _ _ (c.in-Err.ensures.refused (cc))
