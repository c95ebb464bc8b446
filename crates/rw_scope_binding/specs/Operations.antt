-- The operations, in two halves.
use Rattle.std.specs.Prelude.{List, [], ◌∷◌, codes}
use Rattle.rw_scope_rules.specs.declared.binding.Operation.TheVariants.{Return, Bind, Then, Get, Put, Lift, Signal, Extrude, Par, Refold}
use Rattle.rw_scope_rules.specs.declared.binding.Binding.{Binding}
use Rattle.rw_scope_rules.specs.declared.binding.Binding.TheVariants.{Operation as Operates}
use Rattle.rw_scope_rules.specs.Names.{Bytes}

abbrev pub first_operations : List (Bytes × Binding)
first_operations =
    (codes "return", Operates Return) ∷ (codes ">>=", Operates Bind) ∷ (codes ">>", Operates Then) ∷ (codes "get", Operates Get) ∷ (codes "put", Operates Put) ∷ []

abbrev pub last_operations : List (Bytes × Binding)
last_operations =
    (codes "lift", Operates Lift) ∷ (codes "signal", Operates Signal) ∷ (codes "extrude", Operates Extrude) ∷ (codes "par", Operates Par) ∷ (codes "refold", Operates Refold) ∷ []
