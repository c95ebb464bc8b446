-- The variables of types, one type after the other.
use Rattle.std.proofs.Common.{◌≡◌, ℕ, zero, suc, ◌+◌, ◌<◌, ◌≤◌, List, [], ◌∷◌, length, get_or, refl, sym, ◌∙◌, ap, subst, arith, below_more}
use Rattle.rw_types_solving.specs.declared.term.Term.{Term}
use Rattle.rw_types_solving.specs.Types.{Ty, var, plain, plains, top, meaning}
use Rattle.rw_types_solving.specs.Tables.{Uses}
use Rattle.rw_types_solving.proofs.Steps.{uses_top}

plain_item : (types : List Term) (i : ℕ) (z : Ty) (t : Term) → i < length types → get_or (plains types) i z ≡ plain (get_or types i t)
plain_item [] i z t l = absurd (omega arith)
plain_item (u ∷ us) zero z t l = refl
plain_item (u ∷ us) (suc i) z t l = plain_item us i z t (omega arith)

pub within_next : (n : ℕ) (types : List Term) (i : ℕ) (t : Term) → i < length types → t ≡ get_or types i t → top (plain t) ≤ n → ((x : ℕ) → x < i → Uses n (meaning types x))
    → (x : ℕ) → x < i + 1 → Uses n (meaning types x)
within_next n types i t l e few h =
    below_more (λ x. Uses n (meaning types x)) i h (subst (Uses n) (ap plain e ∙ sym (plain_item types i (var i) t l)) (uses_top n (plain t) few))
