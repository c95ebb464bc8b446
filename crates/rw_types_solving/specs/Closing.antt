-- The default of leftover variables: `()` for a type, `I` for a monad, `StateT ()` for a layer.
use Rattle.std.specs.Prelude.{◌≡◌, ℕ, Option, Some, None, Bool, true, List, [], ◌∷◌, length, get_or, slice_get}
use Rattle.rw_types_solving.specs.declared.term.Head.TheVariants as h
use Rattle.rw_types_solving.specs.declared.term.Sort.{Sort}
use Rattle.rw_types_solving.specs.declared.term.Sort.TheVariants as s
use Rattle.rw_types_solving.specs.Types.{Ty, var, app, none, more, apply}
use Rattle.rw_types_solving.specs.Conditions.{hold}
use Rattle.rw_types_solving.specs.Tables.{Solves, IsMostGeneral, Small}

abbrev pub closed_as : Sort → Ty
closed_as s.Plain = app h.Tuple none
closed_as s.Monad = app h.I none
closed_as s.Layer = app h.StateT (more (app h.Tuple none) none)

abbrev pub closing_at : ℕ → Option Sort → Ty
closing_at x None = var x
closing_at x (Some k) = closed_as k

-- each variable of the list is closed by its sort
abbrev pub closing : List Sort → ℕ → Ty
closing sorts x = closing_at x (slice_get sorts x)

abbrev pub sort_of : List Sort → ℕ → Sort
sort_of sorts x = get_or sorts x s.Plain

-- d is a most general solution within the bound, with its leftover variables closed
pub record IsDefault (table : List (Option Ty)) (sorts : List Sort) (d : ℕ → Ty) : Type 0 where
  pub general : ℕ → Ty
  pub most_general : IsMostGeneral table general
  pub small : Small (length table) general
  pub closed : (x : ℕ) → d x ≡ apply (closing sorts) (general x)

-- no solution within the bound meets the conditions, whatever its own variables stand for
abbrev pub HasNone : List (Option Ty) → (ℕ → Bool) → List ℕ → Type 0
HasNone table u conditions = (v : ℕ → Bool) (t : ℕ → Ty) → Solves t table → hold v u t conditions ≡ true → Small (length table) t → ⊥

-- each listed variable is one of a monad
abbrev pub AreMonads : (ℕ → Sort) → List ℕ → Type 0
AreMonads v [] = Unit {0}
AreMonads v (x ∷ xs) = (v x ≡ s.Monad) × AreMonads v xs
