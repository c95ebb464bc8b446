-- By what there is.
use Rattle.std.proofs.Common.{ap, sym, Some}
use Rattle.std.specs.Prelude.{option_copied}
use Rattle.rw_types_equations.specs.Seen.{seen_scheme, seen_option}
use Rattle.rw_types_equations.proofs.Adding.{adds_as}
use Rattle.rw_types_equations.proofs.Own.{own_as, no_own_of}
use Rattle.rw_types_equations.proofs.declaration.add_own_if.Goals as goal

pub returns-in_ok-add_own-in-Some : goal.returns-in_ok-add_own-in-Some
returns-in_ok-add_own-in-Some c = adds_as _ _ _ _ c.in_ok-add_own-in-Some.ensures
    (λ t. own_as (Some (seen_scheme c.in-Some.scheme.now)) (seen_option (option_copied c.args.scheme)) _ (ap (λ z. seen_option (option_copied z)) (sym c.in-Some.is)))

pub returns-in_ok-never-in-None : goal.returns-in_ok-never-in-None
returns-in_ok-never-in-None c = adds_as _ _ _ _ c.in_ok-never-in-None.ensures
    (λ t. no_own_of (seen_option (option_copied c.args.scheme)) _ (ap (λ z. seen_option (option_copied z)) c.in-None.is))
