-- What the name of a local signature is bound to.
use Rattle.std.specs.Prelude.{ℕ, nat_lt, Option, Some, None, if◌then◌else◌}
use Rattle.rw_scope_rules.specs.declared.binding.Binding.{Binding}
use Rattle.rw_scope_rules.specs.declared.binding.Binding.TheVariants.{Local}

-- a name that has this number, if it is one of the names from the outer ones on
abbrev pub own : ℕ → Option ℕ → Option Binding
own outer None = None
own outer (Some number) = if nat_lt number outer then None else Some (Local number)
