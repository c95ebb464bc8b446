-- Substitutions that keep typings: each variable stands for a type of its sort, and types stay within the bound.
use Rattle.std.specs.Prelude.{◌≡◌, ℕ, ◌≤◌, Bool, true, List}
use Rattle.rw_types_solving.specs.declared.term.Sort.{Sort}
use Rattle.rw_types_solving.specs.declared.term.Sort.TheVariants as s
use Rattle.rw_types_solving.specs.Types.{Ty, apply, nodes}
use Rattle.rw_types_solving.specs.Sorts.{HasSort}
use Rattle.rw_types_solving.specs.Tables.{most}
use Rattle.rw_types_solving.specs.Conditions.{is_state_layer, is_state_monad}
use Rattle.rw_types_rules.specs.declared.kind.VariableKind.{VariableKind}
use Rattle.rw_types_rules.specs.Schemes.{World}
use Rattle.rw_types_rules.specs.Typings.{heads_of, state_unknowns, IsType}

-- A substitution of variables of the sorts v, those of y stand for state monads or layers, by types over variables of the sorts w and z
pub record Keeps (own : List VariableKind) (world : World) (v : ℕ → Sort) (y : ℕ → Bool) (w : ℕ → Sort) (z : ℕ → Bool) (r : ℕ → Ty) : Type 0 where
  -- each variable stands for a type of its sort
  pub sorted : (x : ℕ) → HasSort w (heads_of world own) (v x) (r x)
  -- what stood for a state monad stands for one, and so do layers
  pub stacked : (x : ℕ) → y x ≡ true → v x ≡ s.Monad → is_state_monad z (state_unknowns own) (r x) ≡ true
  pub layered : (x : ℕ) → y x ≡ true → v x ≡ s.Layer → is_state_layer z (r x) ≡ true
  -- types of at most 1,024 nodes stay so
  pub small : (k : Sort) (type : Ty) → IsType v y own world k type → nodes (apply r type) ≤ most
