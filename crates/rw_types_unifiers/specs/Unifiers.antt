-- Equations between types, and the substitutions that unify them (Robinson, 1965).
use Rattle.std.specs.Prelude.{◌≡◌, ◌↔◌, ◌<◌, ℕ, List, [], ◌∷◌}
use Rattle.rw_types_solving.specs.Types.{Ty, apply, Agrees}
use Rattle.rw_types_solving.specs.Tables.{Uses}

-- a substitution makes the two sides of each equation one
abbrev pub Unifies : (ℕ → Ty) → List (Ty × Ty) → Type 0
Unifies t [] = Unit {0}
Unifies t (e ∷ es) = (apply t e.0 ≡ apply t e.1) × Unifies t es

-- each variable of the equations is one of the first n
abbrev pub AreWithin : ℕ → List (Ty × Ty) → Type 0
AreWithin n [] = Unit {0}
AreWithin n (e ∷ es) = Uses n e.0 × Uses n e.1 × AreWithin n es

-- s unifies the equations, and every unifier is an instance of it; what it gives the first n variables has none but these
pub record IsMostGeneralUnifier (n : ℕ) (equations : List (Ty × Ty)) (s : ℕ → Ty) : Type 0 where
  pub exactly : (t : ℕ → Ty) → Unifies t equations ↔ Agrees t s
  pub itself : Agrees s s
  pub within : (x : ℕ) → x < n → Uses n (s x)
