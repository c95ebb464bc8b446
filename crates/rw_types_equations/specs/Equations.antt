-- Equations on variables, and what equations say that are added to others.
use Rattle.std.specs.Prelude.{◌≡◌, ◌↔◌, ℕ, List, [], ◌∷◌, ◌++◌, map, Option, Some, None}
use Rattle.rw_types_solving.specs.declared.term.Term.{Term}
use Rattle.rw_types_solving.specs.Types.{Ty, apply, plain, plains}
use Rattle.rw_types_rules.specs.Words.{functions}
use Rattle.rw_types_equations.specs.declared.equation.Equation.{Equation}

abbrev pub taken : Option (List Term) → List Ty
taken None = []
taken (Some ts) = plains ts

-- what an equation says that its variable is
abbrev pub told : Equation → Ty
told e = functions (taken e.takes) (plain e.is)

-- an assignment of types to variables makes the two sides of each equation one
abbrev pub Holds : (ℕ → Ty) → List Equation → Type 0
Holds t [] = Unit {0}
Holds t (e ∷ es) = (t e.variable ≡ apply t (told e)) × Holds t es

-- the new equations hold exactly where the old ones do and P does
pub record Adds (old new : List Equation) (P : (ℕ → Ty) → Type 0) : Type 0 where
  pub exactly : (t : ℕ → Ty) → Holds t new ↔ (Holds t old × P t)

-- local names are bound after the others: binders whose types are these
pub record Entered (old new : List ℕ) (added : (ℕ → Ty) → List Ty) : Type 0 where
  pub more : List ℕ
  pub kept : new ≡ old ++ more
  pub names : (t : ℕ → Ty) → map t more ≡ added t
