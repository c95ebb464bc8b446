-- What a search for instances keeps: those that it has listed are the first ones, and of what they name all is listed but what is left.
use Rattle.std.specs.Prelude.{◌≡◌, ◌≤◌, ℕ, true, List, [], ◌∷◌, ◌++◌, length, slice_get, Some}
use Rattle.std.specs.List.{flat_map, sum_by}
use Rattle.rw_tree.specs.Declarations.{Declaration}
use Rattle.rw_types_rules.specs.TypedTrees.{TypedNode}
use Rattle.rw_types_solving.specs.Types.{Ty, nodes}
use Rattle.rw_types_rules.specs.Schemes.{World}
use Rattle.specialise_rules.specs.Instances.{Instance, is_among, start_from, mentioned, first_instances}
use Rattle.specialise_rules.specs.Tables.{IsTableOf}
use Rattle.specialise_rules.specs.Limits.{most_instances, most_nodes, most_types}

-- each of these is listed
abbrev pub AreListed : List Instance → List Instance → Type 0
AreListed list [] = Unit {0}
AreListed list (i ∷ is) = (is_among i list ≡ true) × AreListed list is

-- of `start` and what the listed instances name all is listed but for these, which stand last
pub record IsLeft (typed : List (Declaration TypedNode)) (list left : List Instance) : Type 0 where
  pub before : List Instance
  pub all : start_from 0 typed ++ flat_map (mentioned typed) list ≡ before ++ left
  pub listed : AreListed list before

-- these are the first instances, as many as they are
abbrev pub AreFirst : List (Declaration TypedNode) → List Instance → Type 0
AreFirst typed list = list ≡ first_instances typed (length list)

-- and they are within the limits, with this table
pub record AreWithin (world : World) (typed : List (Declaration TypedNode)) (list : List Instance) (table : List Ty) : Type 0 where
  pub first : AreFirst typed list
  pub few : length list ≤ most_instances
  pub small : (n : ℕ) (i : Instance) → slice_get list n ≡ Some i → sum_by nodes i.arguments ≤ most_nodes
  pub tabled : IsTableOf world typed list table
  pub narrow : length table ≤ most_types
