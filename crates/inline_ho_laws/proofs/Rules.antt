-- Small laws of evaluation, for what is given from some budget on.
use Rattle.std.proofs.Common.{◌≡◌, ℕ, ◌+◌, List, refl, arith, ap}
use Rattle.rw_scope_rules.specs.declared.binding.Bound.{Bound}
use Rattle.rw_tree.specs.Declarations.{Declaration}
use Rattle.rw_core.specs.Eventually.{Eventually}
use Rattle.rw_meaning.specs.Results.{Outcome, Thunks, nothing, and_then, joined}
use Rattle.rw_meaning.specs.Evaluation.{apply}
use Rattle.rw_meaning.specs.Steps.{Gives}
use Rattle.rw_meaning.proofs.Applying.{gives_once, applied_to_nothing}

pub mapped_three : {P Q R S : ℕ → Type 0} → ((n : ℕ) → P n → Q n → R n → S n) → Eventually P → Eventually Q → Eventually R → Eventually S
mapped_three h e f g = record { from = e.from + (f.from + g.from); holds = λ n k. h n (e.holds n (omega arith)) (f.holds n (omega arith)) (g.holds n (omega arith)) }

pub joined_assoc : (xs ys zs : Thunks) → joined (joined xs ys) zs ≡ joined xs (joined ys zs)
joined_assoc nothing ys zs = refl
joined_assoc (and_then x xs) ys zs = ap (and_then x) (joined_assoc xs ys zs)

pub joined_nothing : (xs : Thunks) → joined xs nothing ≡ xs
joined_nothing nothing = refl
joined_nothing (and_then x xs) = ap (and_then x) (joined_nothing xs)

-- what is applied to nothing stays what it is
pub given_to_nothing : (program : List (Declaration Bound)) (f r : Outcome) → Gives program (apply f nothing) r → f ≡ r
given_to_nothing program f r g = gives_once program (apply f nothing) f r (applied_to_nothing program f) g
