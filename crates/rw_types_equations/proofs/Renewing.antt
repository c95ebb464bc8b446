-- A variable of a scheme gets the number that stands for it.
use Rattle.std.proofs.Common.{◌≡◌, ℕ, zero, suc, List, [], ◌∷◌, map, slice_get, Some, None, refl}
use Rattle.rw_types_solving.specs.Types.{var}
use Rattle.rw_types_solving.proofs.Plains.{plain_forms, tys_map}
use Rattle.rw_types_rules.specs.Words.{unit_type}
use Rattle.rw_types_rules.specs.WellTyped.{given}

pub given_some : (ns : List ℕ) (x n : ℕ) → slice_get ns x ≡ Some n → given (map var ns) x ≡ var n
given_some [] x n e = absurd (cc)
given_some (m ∷ ns) zero n e = cc
given_some (m ∷ ns) (suc x) n e = given_some ns x n e

pub given_none : (ns : List ℕ) (x : ℕ) → slice_get ns x ≡ None → given (map var ns) x ≡ unit_type
given_none [] x e = refl
given_none (m ∷ ns) zero e = absurd (cc)
given_none (m ∷ ns) (suc x) e = given_none ns x e

pub ruleset renewed_steps = (given_some, given_none, plain_forms, tys_map)
