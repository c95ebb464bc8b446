-- Whether an application is one of `par` or `refold`.
use Rattle.std.specs.Prelude.{Bool, true, false, Option, Some}
use Rattle.rw_scope_rules.specs.declared.binding.Operation.TheVariants.{Par, Refold}
use Rattle.rw_scope_rules.specs.declared.binding.Binding.{Binding}
use Rattle.rw_scope_rules.specs.declared.binding.Binding.TheVariants.{Operation as Operates}
use Rattle.rw_tree.specs.Trees.{Expression, variable, application}

abbrev pub joins : Option Binding → Bool
joins (Some (Operates Par)) = true
joins (Some (Operates Refold)) = true
joins _ = false

-- its head, when all arguments are taken off, is one of the two
abbrev pub heads_system : {A : Type 0} → (A → Option Binding) → Expression A → Bool
heads_system binding (application a head parts) = heads_system binding head
heads_system binding (variable a x) = joins (binding a)
heads_system binding _ = false
