-- By induction on what is seen.
use Rattle.specialise_laws.proofs.Seeing.{sees_more, sees_both, sees_split}
use Rattle.specialise_laws.proofs.laws.table_law.Goals as goal

pub returns-clause-behind : goal.returns-clause-behind
returns-clause-behind c world table types after s = sees_more s

pub returns-clause-in_turn : goal.returns-clause-in_turn
returns-clause-in_turn c world table types others after = (λ s. sees_split types others s, λ two. sees_both two.1 two.2)
