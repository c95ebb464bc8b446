-- The types of a declaration's nodes in an instance, by numbers.
use Rattle.std.specs.Prelude.{◌≡◌, ℕ, ◌<◌, List, length, get_or}
use Rattle.rw_types_solving.specs.Types.{Ty}
use Rattle.rw_types_shared.specs.Shared.{Node, type_at, AreBelow}
use Rattle.rw_types_instances.specs.Instances.{closed_by}

-- these numbers of types are the first nodes of a declaration's table, in order, each in the instance at these arguments
pub record AreClosed (arguments : List Ty) (nodes types : List Node) (made : List ℕ) : Type 0 where
  pub within : AreBelow (length types) made
  pub are : (n : ℕ) → n < length made → type_at types (get_or made n 0) ≡ closed_by arguments (type_at nodes n)
