-- By what there is.
use Rattle.std.proofs.Common.{ap, sym, Some}
use Rattle.std.specs.Prelude.{option_copied}
use Rattle.rw_types_equations.specs.Seen.{seen_scheme, seen_option}
use Rattle.rw_types_equations.proofs.Adding.{ok_as}
use Rattle.rw_types_equations.proofs.Names.{match_as, no_match_of}
use Rattle.rw_types_equations.proofs.name.add_match_if.Goals as goal

pub returns-in-Some : goal.returns-in-Some
returns-in-Some c = ok_as _ _ _ _ _ c.add_match.ensures
    (λ t. match_as (Some (seen_scheme c.in-Some.scheme.now)) (seen_option (option_copied c.args.scheme)) _ _ _ (ap (λ z. seen_option (option_copied z)) (sym c.in-Some.is)))

pub returns-in-None : goal.returns-in-None
returns-in-None c = ok_as _ _ _ _ _ c.never.ensures
    (λ t. no_match_of (seen_option (option_copied c.args.scheme)) _ _ _ (ap (λ z. seen_option (option_copied z)) c.in-None.is))
