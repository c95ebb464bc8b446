-- Without types, by the induction on flattening.
use Rattle.inline_ho_rules.specs.FlatPrograms.{IsOf}
use Rattle.inline_ho_laws.proofs.Forget.{forget}
use Rattle.inline_ho_laws.proofs.laws.typed_flattening_is_flattening.Goals as goal

pub returns : goal.returns
returns c program function_of clauses_of number_of origins numbered declared next names arguments e term f =
    forget program function_of clauses_of number_of (IsOf origins) (λ n i us. numbered n i us) declared f
