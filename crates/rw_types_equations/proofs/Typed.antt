-- The solutions of a declaration's equations are the assignments under which its types agree.
use Rattle.std.proofs.Common.{◌≡◌, ◌↔◌, ℕ, Option, List, [], sym, subst}
use Rattle.rw_types_solving.specs.Types.{Ty}
use Rattle.rw_types_solving.specs.Tables.{Solves, Small}
use Rattle.rw_types_equations.specs.declared.equation.Equation.{Equation}
use Rattle.rw_types_equations.specs.Equations.{Holds, Adds}

pub solutions_are : (table : List (Option Ty)) (none made all : List Equation) (P : (ℕ → Ty) → Type 0) → none ≡ [] → Adds none made P → all ≡ made → ((t : ℕ → Ty) → Solves t table ↔ Holds t all) → (t : ℕ → Ty) → Solves t table ↔ P t
solutions_are table none made all P e a p s t = (
  (λ h. ((a.exactly t).0 (subst (λ z. Holds t z) p ((s t).0 h))).1),
  (λ h. (s t).1 (subst (λ z. Holds t z) (sym p) ((a.exactly t).1 (subst (λ z. Holds t z) (sym e) tt, h)))),
)

pub holds_then : (none made all : List Equation) (P : (ℕ → Ty) → Type 0) → none ≡ [] → Adds none made P → all ≡ made → (t : ℕ → Ty) → P t → Holds t all
holds_then none made all P e a p t h = subst (λ z. Holds t z) (sym p) ((a.exactly t).1 (subst (λ z. Holds t z) (sym e) tt, h))

pub same_small : (n m : ℕ) (t : ℕ → Ty) → n ≡ m → Small n t → Small m t
same_small n m t e h = subst (λ z. Small z t) e h
