-- Scopes as a stack of names: the number of a name, and the scope after the latest names are unbound.
use Rattle.std.specs.Prelude.{ℕ, ◌-◌, [], ◌∷◌, length, drop, Option, Some, None, if◌then◌else◌}
use Rattle.rw_scope_rules.specs.Names.{Bytes, is_among}
use Rattle.rw_scope_rules.specs.Bindings.{Scope}

-- the number of the latest binder of a name
abbrev pub number_at : Bytes → Scope → Option ℕ
number_at x [] = None
number_at x (y ∷ scope) = if is_among x (y ∷ []) then Some (length scope) else number_at x scope

abbrev pub below_last : Scope → Scope
below_last [] = []
below_last (x ∷ scope) = scope

-- the names that were bound first, this many
abbrev pub lowest : ℕ → Scope → Scope
lowest n scope = drop (length scope - n) scope
