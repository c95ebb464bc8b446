-- Rule E17: how many instances there may be, and how large their types.
use Rattle.std.specs.Prelude.{◌≡◌, ◌⊎◌, ◌<◌, ℕ, suc, List, [], length, slice_get, Some}
use Rattle.std.specs.List.{sum_by}
use Rattle.rw_tree.specs.Declarations.{Declaration}
use Rattle.rw_types_solving.specs.Types.{Ty, nodes}
use Rattle.rw_types_rules.specs.Schemes.{World}
use Rattle.rw_types_rules.specs.TypedTrees.{TypedNode}
use Rattle.specialise_rules.specs.Instances.{Instance, first_instances, next_instance}
use Rattle.specialise_rules.specs.Tables.{IsTableOf}

abbrev pub most_instances : ℕ
most_instances = 4096

abbrev pub most_nodes : ℕ
most_nodes = 256

abbrev pub most_types : ℕ
most_types = 65536

module _ (world : World) (typed : List (Declaration TypedNode)) where
  -- the instance with this number, from 0, is one too many: there are enough before it, its types have too many nodes together, or with it there are
  -- too many closed data types
  abbrev pub IsTooMuch : ℕ → Instance → Type 0
  IsTooMuch n i =
      (n ≡ most_instances) ⊎ ((most_nodes < sum_by nodes i.arguments) ⊎ ((table : List Ty) → IsTableOf world typed (first_instances typed (suc n)) table → most_types < length table))

  -- it is the first such instance
  pub record IsFirstTooMuch (n : ℕ) (i : Instance) : Type 0 where
    pub listed : slice_get (first_instances typed (suc n)) n ≡ Some i
    pub much : IsTooMuch n i
    pub first : (m : ℕ) (j : Instance) → m < n → slice_get (first_instances typed (suc m)) m ≡ Some j → IsTooMuch m j → ⊥

  -- these are all instances of the program, in their order, and none is too much
  pub record AreInstances (list : List Instance) : Type 0 where
    pub listed : list ≡ first_instances typed most_instances
    pub all : next_instance typed list ≡ []
    pub none : (n : ℕ) (i : Instance) → slice_get list n ≡ Some i → IsTooMuch n i → ⊥
