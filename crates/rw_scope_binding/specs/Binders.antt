-- What the fields of the local names have to do with each other.
use Rattle.std.specs.Prelude.{◌≡◌, ℕ, ◌<◌, ◌^◌, List, [], ◌∷◌, length, map, reverse, Option, Some, None}
use Rattle.rw_scope_rules.specs.Names.{Bytes, first_named}
use Rattle.rw_scope_rules.specs.Bindings.{Scope}
use Rattle.rw_scope_binding.specs.Stack.{number_at}
use Rattle.rw_scope_binding.specs.declared.locals.Binder.{Binder}

-- the scope that these binders, in order, have built
abbrev pub names_from_latest : List Binder → Scope
names_from_latest binders = map (λ b. b.name) binders

abbrev pub names_of_binders : List Binder → Scope
names_of_binders binders = names_from_latest (reverse binders)

-- what a table that may hold nothing for a name says of it
abbrev pub joined : Option (Option ℕ) → Option ℕ
joined None = None
joined (Some number) = number

-- each binder, the latest first, remembers the binder that it hides
abbrev pub Remembers : List Binder → Type 0
Remembers [] = Unit {0}
Remembers (b ∷ bs) = (b.before ≡ number_at b.name (names_from_latest bs)) × Remembers bs

pub record IsStack (latest : List (Bytes × Option ℕ)) (binders : List Binder) : Type 0 where
  pub tells : (x : Bytes) → joined (first_named x latest) ≡ number_at x (names_of_binders binders)
  pub remembers : Remembers (reverse binders)
  pub few : length binders < 2 ^ 32
